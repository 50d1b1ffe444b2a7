use Rattle.std.proofs.Common.{◌≡◌, ◌++◌, take}
use Rattle.text_pieces.specs.Strings.{escaped}
use Rattle.text_pieces.proofs.strings.push_escaped.Given as goal

abbrev pub invariant-loop-byte : goal.invariant-loop-byte
invariant-loop-byte l = l.text.items ≡ l.fn.text.items ++ escaped (take l.byte-index l.bytes)
