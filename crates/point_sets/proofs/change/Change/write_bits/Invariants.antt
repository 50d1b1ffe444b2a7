use Rattle.point_sets.specs.code.Changes.{changed_among}
use Rattle.point_sets.specs.code.Lines.{Lays}
use Rattle.text_pieces.specs.Pieces.{outlet}
use Rattle.point_sets.proofs.change.Change.write_bits.Given as goal

abbrev pub invariant-loop-bit : goal.invariant-loop-bit
invariant-loop-bit g l =
    Lays (changed_among l.fn.self l.fn.came l.fn.texts.texts 0 l.bit) l.fn.line (outlet g.K.Sink l.fn.out) (outlet g.K.Sink l.out) l.last
