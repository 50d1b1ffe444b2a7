use Rattle.std.proofs.Common.{sym}
use Rattle.text_pieces.proofs.sinks.Taking.{takes_as, takes_then}
use Rattle.source_lines.proofs.lines.Signs.{bytes_more}
use Rattle.source_lines.proofs.source.write_bytes.Goals as goal

pub returns-then-are_signs : goal.returns-then-are_signs
returns-then-are_signs g c = takes_as _ _ _ _ c.write_escaped.ensures (sym (c.are_signs.ensures c.if-are_signs.true))

pub loop-byte-preserved : goal.loop-byte-preserved
loop-byte-preserved g c = takes_as _ _ _ _ (takes_then _ _ _ _ _ c.loop-byte.invariant c.write_byte.ensures)
    (bytes_more c.args.bytes.now c.loop-byte.byte-index c.loop-byte-test.true)
