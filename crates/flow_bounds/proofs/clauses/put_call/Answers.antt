use Rattle.std.proofs.Common.{◌≡◌, true, false, subst, arith}
use Rattle.std.proofs.lemmas.Result.{on_ok_weaker}
use Rattle.flow_bounds.specs.Clauses.{InnerClause, OuterClause, cell_count, is_inside}
use Rattle.flow_bounds.specs.code.Frames.{Adds}
use Rattle.flow_bounds.proofs.telling.Adding.{adds_as}
use Rattle.flow_bounds.proofs.telling.Links.{inner_back, inner_from, linked, outer_back, outer_from}
use Rattle.flow_bounds.proofs.clauses.put_call.Goals as goal

pub procedure_of-callee-requires : goal.procedure_of-callee-requires
procedure_of-callee-requires c = (linked c.args.frame.now c.requires.frame c.args.x c.args.link c.requires.link).exit_there

pub bounds-frame-callee : goal.bounds-frame-callee
bounds-frame-callee c =
    let is = linked c.args.frame.now c.requires.frame c.args.x c.args.link c.requires.link in
    omega (arith, is.call.0, c.procedure_of-callee.ensures, c.requires.frame.inside)

pub put_inner-requires-clause-after : goal.put_inner-requires-clause-after
put_inner-requires-clause-after c =
    let is = linked c.args.frame.now c.requires.frame c.args.x c.args.link c.requires.link in
    (is.after_there, is.after_inside c.requires.point.1)

pub put_outer-requires-clause-after : goal.put_outer-requires-clause-after
put_outer-requires-clause-after c =
    let is = linked c.args.frame.now c.requires.frame c.args.x c.args.link c.requires.link in
    (is.after_there, is.after_inside c.requires.point.1)

pub put_outer-requires-clause-callee : goal.put_outer-requires-clause-callee
put_outer-requires-clause-callee c =
    let is = linked c.args.frame.now c.requires.frame c.args.x c.args.link c.requires.link in
    omega (arith, is.call.0, c.procedure_of-callee.ensures)

pub returns-then-frame-callee : goal.returns-then-frame-callee
returns-then-frame-callee c =
    let inside = subst (λ p. is_inside c.args.frame.now p ≡ true) c.procedure_of-callee.ensures c.if-frame-callee.true in
    on_ok_weaker c.put_inner.result
    (λ adds. adds_as (cell_count c.args.frame.now) _ _ _ _ (inner_from c.args.frame.now c.args.x _ c.args.link.after inside)
    (inner_back c.args.frame.now c.args.x _ c.args.link.after inside)
    (subst (λ p. Adds (cell_count c.args.frame.now) (InnerClause c.args.frame.now c.args.x p c.args.link.after)
    c.args.rules.now.items c.put_inner.new.rules.items) c.procedure_of-callee.ensures adds))
    c.put_inner.ensures

pub returns : goal.returns
returns c =
    let outside = subst (λ p. is_inside c.args.frame.now p ≡ false) c.procedure_of-callee.ensures c.if-frame-callee.false in
    on_ok_weaker c.put_outer.result
    (λ adds. adds_as (cell_count c.args.frame.now) _ _ _ _ (outer_from c.args.frame.now c.args.x _ c.args.link.after outside)
    (outer_back c.args.frame.now c.args.x _ c.args.link.after outside)
    (subst (λ p. Adds (cell_count c.args.frame.now) (OuterClause c.args.frame.now c.args.x p c.args.link.after)
    c.args.rules.now.items c.put_outer.new.rules.items) c.procedure_of-callee.ensures adds))
    c.put_outer.ensures
