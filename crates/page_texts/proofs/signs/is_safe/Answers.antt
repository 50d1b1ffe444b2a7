use Rattle.std.proofs.Common.{◌∙◌, sym}
use Rattle.page_texts.proofs.lists.Safe.{plain_more}
use Rattle.page_texts.proofs.signs.is_safe.Goals as goal

pub loop-byte-preserved : goal.loop-byte-preserved
loop-byte-preserved c =
    plain_more c.args.bytes.now c.loop-byte.byte-index c.loop-byte-test.true (sym c.is_special.ensures ∙ c.if-is_special.false) c.loop-byte.invariant
