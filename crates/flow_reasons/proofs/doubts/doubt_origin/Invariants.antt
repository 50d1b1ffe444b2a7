use Rattle.std.proofs.Common.{◌-◌}
use Rattle.flow_graph.specs.Points.{point_count}
use Rattle.flow_graph.specs.code.Searching.{search_of}
use Rattle.flow_reasons.proofs.searches.Doubting.{Seeks}
use Rattle.flow_reasons.proofs.doubts.doubt_origin.Given as goal

abbrev pub invariant-loop-next : goal.invariant-loop-next
invariant-loop-next l = Seeks l.graph l.fn.point l.next (search_of l.known.items l.work.items)

abbrev pub decreases-loop-next : goal.decreases-loop-next
decreases-loop-next l = point_count l.graph - l.next
