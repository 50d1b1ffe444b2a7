use Rattle.std.proofs.Common.{◌≡◌, take}
use Rattle.text_pieces.specs.Strings.{escaped}
use Rattle.text_pieces.proofs.strings.is_plain.Given as goal

abbrev pub invariant-loop-byte : goal.invariant-loop-byte
invariant-loop-byte l = escaped (take l.byte-index l.bytes) ≡ take l.byte-index l.bytes
