use Rattle.std.proofs.lemmas.List.{get_or_default}
use Rattle.text_pieces.proofs.sinks.Taking.{takes_as, takes_nothing, takes_then}
use Rattle.lint_styles.specs.Styles.{source_byte}
use Rattle.lint_styles.proofs.Elements.{text_more}
use Rattle.lint_styles.proofs.bytes.write_source_bytes.Goals as goal

pub loop-byte-init : goal.loop-byte-init
loop-byte-init g c = takes_nothing _

pub loop-byte-preserved : goal.loop-byte-preserved
loop-byte-preserved g c =
    takes_as _ _ _ _ (takes_then _ _ _ _ _ c.loop-byte.invariant c.write_source_byte.ensures)
    (text_more c.args.bytes.now c.loop-byte.byte-index source_byte _ c.loop-byte-test.true
    (get_or_default c.args.bytes.now c.loop-byte.byte-index _ _ c.loop-byte-test.true))
