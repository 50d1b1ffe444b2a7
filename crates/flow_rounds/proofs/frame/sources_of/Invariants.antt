use Rattle.std.proofs.Common.{take}
use Rattle.flow_rounds.specs.code.Frames.{AreSources, has_path_within}
use Rattle.flow_rounds.proofs.frame.sources_of.Given as goal

abbrev pub invariant-loop-point : goal.invariant-loop-point
invariant-loop-point l = AreSources l.edges (has_path_within l.points l.table) (take l.point-index l.order) l.lists.items
