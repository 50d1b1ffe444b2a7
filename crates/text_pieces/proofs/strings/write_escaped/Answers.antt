use Rattle.std.proofs.Common.{sym}
use Rattle.text_pieces.proofs.sinks.Taking.{takes_as, takes_then}
use Rattle.text_pieces.proofs.sinks.Escapes.{escaped_more}
use Rattle.text_pieces.proofs.strings.write_escaped.Goals as goal

pub returns-then-is_plain : goal.returns-then-is_plain
returns-then-is_plain g c = takes_as _ _ _ _ c.write.ensures (sym (c.is_plain.ensures c.if-is_plain.true))

pub loop-byte-preserved : goal.loop-byte-preserved
loop-byte-preserved g c = takes_as _ _ _ _ (takes_then _ _ _ _ _ c.loop-byte.invariant c.write_byte.ensures)
    (escaped_more c.args.bytes.now c.loop-byte.byte-index c.loop-byte-test.true)
