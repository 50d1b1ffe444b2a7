use Rattle.std.proofs.Common.{◌-◌, flat_map}
use Rattle.std.specs.List.{range_with_len}
use Rattle.text_pieces.specs.Pieces.{Writes}
use Rattle.flow_views.specs.code.ViewProgram.{known_of}
use Rattle.block_dots.specs.BlockDots.{statement_lines}
use Rattle.block_dots.proofs.nodes.write_statements.Given as goal

abbrev pub invariant-loop-point : goal.invariant-loop-point
invariant-loop-point g l =
    Writes g.K.Sink l.fn.out l.out
    (flat_map (statement_lines l.fn.shown.found.graph.now (known_of l.fn.shown)) (range_with_len l.fn.block.leader (l.point - l.fn.block.leader)))
