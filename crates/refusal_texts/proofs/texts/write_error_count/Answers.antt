use Rattle.std.proofs.Common.{sym, ◌∙◌}
use Rattle.text_pieces.proofs.sinks.Taking.{takes_as, takes_then}
use Rattle.refusal_texts.proofs.Lines.{all_errors, first_errors}
use Rattle.refusal_texts.proofs.texts.write_error_count.Goals as goal

pub returns-then-has_more : goal.returns-then-has_more
returns-then-has_more g c =
    takes_as _ _ _ _ c.write.ensures (first_errors c.args.count (sym c.has_more.ensures ∙ c.if-has_more.true))

pub returns-else-count-eq1 : goal.returns-else-count-eq1
returns-else-count-eq1 g c =
    takes_as _ _ _ _ (takes_then _ _ _ _ _ c.write_size.ensures c.write-else-count-eq1.ensures)
    (all_errors c.args.count (sym c.has_more.ensures ∙ c.if-has_more.false) c.if-count-eq1.false)
