use Rattle.std.proofs.Common.{◌≡◌, drop}
use Rattle.std.specs.List.{list_any}
use Rattle.flow_rounds.specs.Rounds.{is_return_to}
use Rattle.flow_rounds.proofs.steps.has_return_to.Given as goal

abbrev pub invariant-loop-edge : goal.invariant-loop-edge
invariant-loop-edge l = list_any (is_return_to l.point) (drop l.edge-index l.edges) ≡ list_any (is_return_to l.point) l.edges
