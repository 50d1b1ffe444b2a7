use Rattle.lint_texts.proofs.Texts.{more_untold, one_untold}
use Rattle.text_pieces.proofs.sinks.Taking.{takes_as, takes_then}
use Rattle.lint_texts.proofs.lines.write_untold.Goals as goal

pub returns-then-count-eq1 : goal.returns-then-count-eq1
returns-then-count-eq1 g c = takes_as _ _ _ _ c.write.ensures (one_untold c.args.count c.if-count-eq1.true)

pub returns-else-count-eq1 : goal.returns-else-count-eq1
returns-else-count-eq1 g c =
    takes_as _ _ _ _ (takes_then _ _ _ _ _ c.write_number.ensures c.write-else-count-eq1.ensures) (more_untold c.args.count c.if-count-eq1.false)
