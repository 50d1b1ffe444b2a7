use Rattle.std.proofs.Common.{◌*◌, min}
use Rattle.point_sets.specs.code.Lines.{Lays, names_among}
use Rattle.text_pieces.specs.Pieces.{outlet}
use Rattle.point_sets.proofs.point_set.PointSet.write_words.Given as goal

abbrev pub invariant-loop-at : goal.invariant-loop-at
invariant-loop-at g l =
    Lays (names_among l.fn.self l.fn.texts.texts 0 (min l.fn.bits (64 * l.at))) l.fn.line (outlet g.K.Sink l.fn.out) (outlet g.K.Sink l.out) l.last
