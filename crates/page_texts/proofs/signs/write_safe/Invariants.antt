use Rattle.std.proofs.Common.{take}
use Rattle.text_pieces.specs.Pieces.{Writes}
use Rattle.page_texts.specs.Pages.{safe}
use Rattle.page_texts.proofs.signs.write_safe.Given as goal

abbrev pub invariant-loop-byte : goal.invariant-loop-byte
invariant-loop-byte g l =
    Writes g.K.Sink l.fn.out l.out
    (safe (take l.byte-index l.bytes))
