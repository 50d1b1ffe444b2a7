use Rattle.lint_texts.proofs.Texts.{more_left_out, one_left_out}
use Rattle.text_pieces.proofs.sinks.Taking.{takes_as, takes_then}
use Rattle.lint_texts.proofs.notes.write_left_out.Goals as goal

pub returns-then-count-eq1 : goal.returns-then-count-eq1
returns-then-count-eq1 g c = takes_as _ _ _ _ c.write.ensures (one_left_out c.args.count c.if-count-eq1.true)

pub returns-else-count-eq1 : goal.returns-else-count-eq1
returns-else-count-eq1 g c =
    takes_as _ _ _ _ (takes_then _ _ _ _ _ c.write_size.ensures c.write-else-count-eq1.ensures) (more_left_out c.args.count c.if-count-eq1.false)
