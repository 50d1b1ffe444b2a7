use Rattle.std.proofs.Common.{flat_map, take}
use Rattle.text_pieces.specs.Pieces.{Writes}
use Rattle.source_lines.specs.SourceLines.{byte_text}
use Rattle.source_lines.proofs.source.write_bytes.Given as goal

abbrev pub invariant-loop-byte : goal.invariant-loop-byte
invariant-loop-byte g l = Writes g.K.Sink l.fn.out l.out (flat_map byte_text (take l.byte-index l.bytes))
