use Rattle.std.proofs.Common.{◌≡◌, Some, length, get_or, slice_get, sym, subst, ◌∙◌, arith}
use Rattle.std.proofs.lemmas.List.Elements.{Contains-get_or}
use Rattle.std.proofs.lemmas.Option.{slice_get-get_or}
use Rattle.flow_links.specs.declared.link.CallLink.{CallLink}
use Rattle.flow_bounds.specs.Clauses.{cell_count, shape_in}
use Rattle.flow_bounds.specs.code.Frames.{Adds, BelowClause, CallClause, LinkClause}
use Rattle.flow_bounds.proofs.telling.Adding.{adds_as, adds_more}
use Rattle.flow_bounds.proofs.telling.Links.{calls_back, calls_from}
use Rattle.flow_bounds.proofs.clauses.put_calls.Goals as goal

pub put_call-requires-clause-link : goal.put_call-requires-clause-link
put_call-requires-clause-link c =
    (c.calls_from-calls.ensures.listed _).0 (Contains-get_or _ c.loop-link.link-index (record { exit = 0; after = 0 }) c.loop-link-test.true)

pub loop-link-preserved : goal.loop-link-preserved
loop-link-preserved c =
    let link : CallLink = get_or c.calls_from-calls.result.now c.loop-link.link-index (record { exit = 0; after = 0 }) in
    let there : slice_get c.calls_from-calls.result.now c.loop-link.link-index ≡ Some link =
    slice_get-get_or c.calls_from-calls.result.now c.loop-link.link-index (record { exit = 0; after = 0 }) c.loop-link-test.true in
    adds_more (cell_count c.args.frame.now) (CallClause c.args.frame.now c.args.x c.calls_from-calls.result.now) c.loop-link.link-index _ _ _
    c.loop-link.invariant
    (adds_as (cell_count c.args.frame.now) (LinkClause c.args.frame.now c.args.x ((shape_in c.args.frame.now).procedure_of link.exit) link.after)
    (CallClause c.args.frame.now c.args.x c.calls_from-calls.result.now c.loop-link.link-index) _ _
    (λ bit to first second small clause. (link, there, clause))
    (λ bit to first second small (other, at, clause).
    let both : Some other ≡ Some link = sym at ∙ there in
    let one : other ≡ link = cc both in
    subst (λ (l : CallLink). LinkClause c.args.frame.now c.args.x ((shape_in c.args.frame.now).procedure_of l.exit) l.after bit to first second) one clause)
    c.in_ok-put_call.ensures)

pub returns : goal.returns
returns c =
    let all : c.loop-link.link-index ≡ length c.calls_from-calls.result.now = omega arith in
    adds_as (cell_count c.args.frame.now) _ _ _ _
    (calls_from c.args.frame.now c.requires.frame c.args.x c.calls_from-calls.result.now c.calls_from-calls.ensures)
    (calls_back c.args.frame.now c.requires.frame c.args.x c.calls_from-calls.result.now c.calls_from-calls.ensures)
    (subst (λ n. Adds (cell_count c.args.frame.now) (BelowClause (CallClause c.args.frame.now c.args.x c.calls_from-calls.result.now) n) c.args.rules.now.items c.loop-link.rules.items) all
    c.loop-link.invariant)
