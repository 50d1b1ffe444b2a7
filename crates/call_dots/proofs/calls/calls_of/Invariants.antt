use Rattle.std.proofs.Common.{◌≡◌, ◌-◌, flat_map}
use Rattle.std.specs.List.{range_with_len}
use Rattle.flow_graph.specs.Points.{entry_point}
use Rattle.call_dots.specs.Calls.{calls_at}
use Rattle.call_dots.proofs.calls.calls_of.Given as goal

abbrev pub invariant-loop-site : goal.invariant-loop-site
invariant-loop-site l = l.calls.items ≡ flat_map (calls_at l.fn.graph)
    (range_with_len (entry_point l.fn.graph l.fn.procedure) (l.site - entry_point l.fn.graph l.fn.procedure))
