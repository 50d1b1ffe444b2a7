use Rattle.std.proofs.Common.{get_or, arith, refl}
use Rattle.std.proofs.lemmas.List.Elements.{Contains-get_or}
use Rattle.flow_links.specs.Shapes.{after_site, directed_shape}
use Rattle.gk_solve.specs.Tables.Flags.{IsCallSettled}
use Rattle.flow_links.specs.declared.link.CallLink.{CallLink}
use Rattle.gk_solve.proofs.visits.FlagVisits.{call_settled_more, flags_on}
use Rattle.gk_solve.proofs.visits.Listed.{each_listed, read_more}
use Rattle.gk_solve.proofs.visits.Visits.{spreads_more}
use Rattle.gk_solve.proofs.reach.visit_calls.Goals as goal

pub visit_call-requires-clause-there : goal.visit_call-requires-clause-there
visit_call-requires-clause-there c =
    let none : CallLink = record { exit = 0; after = 0 } in
    let list = c.calls_from-calls.result.now in
    (c.calls_from-calls.ensures.listed (get_or list c.loop-call.call-index none)).0
    (Contains-get_or list c.loop-call.call-index none c.loop-call-test.true)

pub loop-call-preserved : goal.loop-call-preserved
loop-call-preserved c =
    let linked = c.args.links.now in
    record {
      spreads = spreads_more flags_on _ _ _ _ _ _ c.loop-call.invariant.spreads c.visit_call.ensures.spreads;
      done = read_more (IsCallSettled (directed_shape linked) linked.backward c.args.at c.visit_call.new.flags c.visit_call.new.dirty)
          c.calls_from-calls.result.now c.loop-call.call-index (record { exit = 0; after = 0 }) c.loop-call-test.true
          (λ j d below. call_settled_more (directed_shape linked) linked.backward c.args.at _ _ _ _ _ c.visit_call.ensures.spreads
          (c.loop-call.invariant.done j d below)) c.visit_call.ensures.settled;
    }

pub returns-clause-settled : goal.returns-clause-settled
returns-clause-settled c site y there =
    let linked = c.args.links.now in
    let shape = directed_shape linked in
    let none : CallLink = record { exit = 0; after = 0 } in
    let link : CallLink = record { exit = shape.exit (shape.procedure_of y); after = after_site linked.backward site } in
    let done = each_listed (IsCallSettled shape linked.backward c.args.at c.loop-call.flags c.loop-call.dirty)
    c.calls_from-calls.result.now none c.loop-call.call-index (omega arith)
    (λ j. c.loop-call.invariant.done j none) link ((c.calls_from-calls.ensures.listed link).1 (site, y, there, refl, refl)) in
    done.settled site y there refl refl
