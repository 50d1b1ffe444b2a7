use Rattle.std.proofs.Common.{ℕ, List, flat_map, ap}
use Rattle.text_pieces.proofs.sinks.Taking.{takes_as, takes_then}
use Rattle.source_lines.specs.SourceLines.{byte_text}
use Rattle.source_lines.proofs.source.write_line.Goals as goal

pub returns : goal.returns
returns g c =
    takes_then _ _ _ _ _ (takes_then _ _ _ _ _ (takes_then _ _ _ _ _ (takes_then _ _ _ _ _ (takes_then _ _ _ _ _ (takes_then _ _ _ _ _
    c.write.ensures c.write_number.ensures) c.write-2.ensures) c.write_number-2.ensures) c.write-3.ensures)
    (takes_as _ _ _ _ c.write_bytes.ensures (ap (λ (bytes : List ℕ). flat_map byte_text bytes) c.content_of.ensures))) c.write-4.ensures
