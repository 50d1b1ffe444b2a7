use Rattle.std.proofs.Common.{◌<◌, get_or, arith}
use Rattle.std.proofs.lemmas.List.Elements.{All-get_or}
use Rattle.flow_graph.specs.Points.{point_count}
use Rattle.flow_links.specs.Shapes.{directed_shape}
use Rattle.worklist.specs.Worklist.{IsMarked}
use Rattle.gk_solve.proofs.visits.FlagVisits.{grown_spreads}
use Rattle.gk_solve.proofs.visits.Listed.{each_listed}
use Rattle.gk_solve.proofs.reach.reach_point.Goals as goal

pub mark-requires-in-loop-caller : goal.mark-requires-in-loop-caller
mark-requires-in-loop-caller c =
    let low : get_or c.callers_of-callers.result.now c.loop-caller.caller-index 0 < point_count c.args.links.now.program =
    All-get_or (λ x. x < point_count c.args.links.now.program)
    c.callers_of-callers.result.now c.loop-caller.caller-index 0 c.loop-caller-test.true c.callers_of-callers.ensures.in_range in
    omega (arith, low, c.loop-caller.invariant.count, c.requires.dirty_count)

pub returns-clause-spreads : goal.returns-clause-spreads
returns-clause-spreads c =
    let callers = c.callers_of-callers.ensures in
    grown_spreads (directed_shape c.args.links.now) c.args.links.now.backward c.args.flags.now c.args.dirty.now c.loop-caller.dirty c.args.at
    (omega arith) c.if-flags-at.false c.requires.reached
    c.loop-caller.invariant.count c.loop-caller.invariant.here c.loop-caller.invariant.keeps
    (λ site x y there exit. each_listed (IsMarked c.loop-caller.dirty) c.callers_of-callers.result.now 0 c.loop-caller.caller-index (omega arith)
    c.loop-caller.invariant.done x
    ((callers.listed x).1 (site, y, there, exit)))
