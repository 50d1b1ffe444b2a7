use Rattle.std.proofs.Common.{◌-◌}
use Rattle.point_sets.specs.code.Lines.{Lays, names_among}
use Rattle.text_pieces.specs.Pieces.{outlet}
use Rattle.point_sets.proofs.point_set.PointSet.write_bits.Given as goal

abbrev pub invariant-loop-bit : goal.invariant-loop-bit
invariant-loop-bit g l =
    Lays (names_among l.fn.self l.fn.texts.texts l.fn.first (l.bit - l.fn.first)) l.fn.line (outlet g.K.Sink l.fn.out) (outlet g.K.Sink l.out) l.last
