use Rattle.point_sets.specs.code.Lines.{Lays}
use Rattle.text_pieces.specs.Pieces.{outlet}
use Rattle.block_dots.specs.code.BlockBits.{shown_among}
use Rattle.block_dots.proofs.block_bits.BlockBits.write_bits.Given as goal

abbrev pub invariant-loop-bit : goal.invariant-loop-bit
invariant-loop-bit g l =
    Lays (shown_among l.fn.self l.fn.texts.texts 0 l.bit) l.fn.line (outlet g.K.Sink l.fn.out) (outlet g.K.Sink l.out) l.last
