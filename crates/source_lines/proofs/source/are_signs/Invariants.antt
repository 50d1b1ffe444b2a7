use Rattle.std.proofs.Common.{◌≡◌, flat_map, take}
use Rattle.text_pieces.specs.Strings.{escaped}
use Rattle.source_lines.specs.SourceLines.{byte_text}
use Rattle.source_lines.proofs.source.are_signs.Given as goal

abbrev pub invariant-loop-byte : goal.invariant-loop-byte
invariant-loop-byte l = flat_map byte_text (take l.byte-index l.bytes) ≡ escaped (take l.byte-index l.bytes)
