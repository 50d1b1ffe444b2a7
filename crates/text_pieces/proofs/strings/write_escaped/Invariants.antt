use Rattle.std.proofs.Common.{take}
use Rattle.text_pieces.specs.Pieces.{Writes}
use Rattle.text_pieces.specs.Strings.{escaped}
use Rattle.text_pieces.proofs.strings.write_escaped.Given as goal

abbrev pub invariant-loop-byte : goal.invariant-loop-byte
invariant-loop-byte g l =
    Writes g.K.Sink l.fn.out l.out
    (escaped (take l.byte-index l.bytes))
