use Rattle.std.proofs.Common.{◌≡◌}
use Rattle.flow_graph.specs.Points.{point_count}
use Rattle.flow_reasons.specs.code.Marks.{AreAllBelow, IsMet}
use Rattle.flow_reasons.proofs.met.met_points.Given as goal

abbrev pub invariant-loop-point : goal.invariant-loop-point
invariant-loop-point l =
    AreAllBelow (IsMet l.search.ways.now.linked l.wanted l.search.stops.now l.search.at) l.point l.list.items
    × (l.space ≡ point_count l.search.ways.now.linked.program)
