use Rattle.std.proofs.Common.{◌≡◌, take}
use Rattle.std.specs.List.{filter}
use Rattle.graph_components.specs.code.Levels.{is_level}
use Rattle.graph_components.proofs.inner.inner_arcs.Given as goal

abbrev pub invariant-loop-arc : goal.invariant-loop-arc
invariant-loop-arc l = l.inner.items ≡ filter (is_level l.levels) (take l.arc-index l.arcs)
