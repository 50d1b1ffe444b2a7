use Rattle.lint_texts.proofs.Texts.{more_remarks}
use Rattle.text_pieces.proofs.sinks.Taking.{takes_as, takes_then}
use Rattle.lint_texts.proofs.lines.write_remark_count.Goals as goal

pub returns-else-count-eq1 : goal.returns-else-count-eq1
returns-else-count-eq1 g c =
    takes_as _ _ _ _ (takes_then _ _ _ _ _ c.write_size.ensures c.write-else-count-eq1.ensures)
    (more_remarks c.args.count c.if-count-eq0.false c.if-count-eq1.false)
