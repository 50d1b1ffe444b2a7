use Rattle.std.proofs.Common.{◌≡◌, length}
use Rattle.flow_graph.specs.Points.{point_count}
use Rattle.flow_bounds.specs.Asked.{AreToldOf}
use Rattle.flow_bounds.proofs.settlement.tell_all.Given as goal

abbrev pub invariant-loop-number : goal.invariant-loop-number
invariant-loop-number l = record {
  places : length l.room.places.items ≡ point_count l.asking.shared.links.now.program;
  told : AreToldOf l.asking.shared.problem.now l.asking.asks.now l.told;
}
