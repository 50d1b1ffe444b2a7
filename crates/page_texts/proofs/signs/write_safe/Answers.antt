use Rattle.std.proofs.Common.{sym}
use Rattle.text_pieces.proofs.sinks.Taking.{takes_as, takes_then}
use Rattle.page_texts.proofs.lists.Safe.{safe_more}
use Rattle.page_texts.proofs.signs.write_safe.Goals as goal

pub returns-then-is_safe : goal.returns-then-is_safe
returns-then-is_safe g c = takes_as _ _ _ _ c.write.ensures (sym (c.is_safe.ensures c.if-is_safe.true))

pub loop-byte-preserved : goal.loop-byte-preserved
loop-byte-preserved g c = takes_as _ _ _ _ (takes_then _ _ _ _ _ c.loop-byte.invariant c.write_safe_byte.ensures)
    (safe_more c.args.bytes.now c.loop-byte.byte-index c.loop-byte-test.true)
