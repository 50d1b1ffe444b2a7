use Rattle.std.proofs.Common.{◌<◌, sym, subst}
use Rattle.std.proofs.lemmas.Result.{on_ok_weaker}
use Rattle.flow_links.specs.Shapes.{directed_shape}
use Rattle.summary_equations.specs.Equations.{Preserved}
use Rattle.flow_why.specs.code.Found.{Has}
use Rattle.flow_why.specs.code.Frames.{question_of, transfer_for}
use Rattle.flow_why.specs.declared.claim.Claim.TheVariants as claim
use Rattle.flow_why.proofs.visits.Growing.{has_family, has_on, spreads_on}
use Rattle.flow_why.proofs.visit.visit_open_call.Goals as goal

pub has-requires : goal.has-requires
has-requires c =
    subst (λ n. n < (c.begin.new.search.preserved).points) (sym c.exit.ensures)
    (subst (λ n. (directed_shape c.args.frame.now.links.now).exit c.args.callee < n)
    (sym (c.in_ok-begin.ensures.spreads.marks.each claim.Preserved).points)
    (c.requires.frame.numbered.exit_in_range c.args.callee c.requires.call.1.0))

pub returns-then-not-has-clause-pass : goal.returns-then-not-has-clause-pass
returns-then-not-has-clause-pass c =
    let exit = (directed_shape c.args.frame.now.links.now).exit c.args.callee in
    (λ through. absurd (cc (
      c.if-not-has.true,
      c.has.ensures.1 (subst (λ n. Has c.begin.new.search claim.Preserved n) (sym c.exit.ensures)
          (has_on c.args.search.now c.begin.new.search claim.Preserved exit c.in_ok-begin.ensures.spreads.grows through)),
    )))

pub pass-requires-clause-through : goal.pass-requires-clause-through
pass-requires-clause-through c =
    let frame = c.args.frame.now in
    subst (λ n. Preserved (directed_shape frame.links.now) (transfer_for frame).kill n) c.exit.ensures
    (has_family (question_of frame) c.begin.new.search claim.Preserved c.exit.result c.in_ok-begin.ensures.spreads.marks
    (c.has.ensures.0 c.if-not-has.false))

pub returns-clause-spreads : goal.returns-clause-spreads
returns-clause-spreads c =
    on_ok_weaker c.pass.result
    (λ last. spreads_on (question_of c.args.frame.now) c.args.search.now c.begin.new.search c.pass.new.search c.in_ok-begin.ensures.spreads last)
    c.pass.ensures.spreads

pub returns-clause-begin : goal.returns-clause-begin
returns-clause-begin c =
    let entry = (directed_shape c.args.frame.now.links.now).entry c.args.callee in
    on_ok_weaker c.pass.result
    (λ last. has_on c.begin.new.search c.pass.new.search claim.Preserved entry last.grows c.in_ok-begin.ensures.has)
    c.pass.ensures.spreads
