use Rattle.std.proofs.Common.{◌∙◌, sym}
use Rattle.source_lines.proofs.lines.Signs.{signs_more}
use Rattle.source_lines.proofs.source.are_signs.Goals as goal

pub loop-byte-preserved : goal.loop-byte-preserved
loop-byte-preserved c =
    signs_more c.args.bytes.now c.loop-byte.byte-index c.loop-byte-test.true (sym c.is_sign.ensures ∙ c.if-not-is_sign.false) c.loop-byte.invariant
