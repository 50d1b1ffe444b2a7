use Rattle.std.proofs.Common.{◌≡◌, ◌++◌, drop}
use Rattle.flow_rounds.specs.code.Frames.{has_path_within, sources_to}
use Rattle.flow_rounds.proofs.steps.sources.Given as goal

abbrev pub invariant-loop-edge : goal.invariant-loop-edge
invariant-loop-edge l =
    l.sources.items ++ sources_to (drop l.edge-index l.edges) (has_path_within l.points l.table) l.point
    ≡ sources_to l.edges (has_path_within l.points l.table) l.point
