use Rattle.std.proofs.lemmas.List.{get_or_default}
use Rattle.text_pieces.proofs.sinks.Taking.{takes_as, takes_nothing, takes_then}
use Rattle.lint_styles.proofs.Elements.{text_more}
use Rattle.refusal_texts.specs.RefusalTexts.{refusal_lines}
use Rattle.refusal_texts.proofs.texts.RefusalText.write_all.Goals as goal

pub loop-told-init : goal.loop-told-init
loop-told-init g c = takes_nothing _

pub loop-told-preserved : goal.loop-told-preserved
loop-told-preserved g c =
    takes_as _ _ _ _ (takes_then _ _ _ _ _ c.loop-told.invariant c.write_lines.ensures)
    (text_more c.first_told-all.result.now c.loop-told.told-index (refusal_lines c.args.self.now.style c.args.self.now.file.now c.args.self.now.text.now) _
    c.loop-told-test.true
    (get_or_default c.first_told-all.result.now c.loop-told.told-index _ _ c.loop-told-test.true))
