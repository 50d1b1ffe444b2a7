use Rattle.std.proofs.Common.{◌≡◌}
use Rattle.flow_views.specs.code.ViewProgram.{known_of}
use Rattle.block_dots.specs.code.Blocks.{marks_before}
use Rattle.block_dots.proofs.block_marks.marks_of.Given as goal

abbrev pub invariant-loop-point : goal.invariant-loop-point
invariant-loop-point l = l.marks ≡ marks_before l.shown.found.graph.now (known_of l.shown) l.fn.block.leader l.point
