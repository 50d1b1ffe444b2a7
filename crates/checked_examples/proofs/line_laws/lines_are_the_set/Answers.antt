use Rattle.checked_examples.proofs.Lines.{lines_do_join}
use Rattle.checked_examples.proofs.line_laws.lines_are_the_set.Goals as goal

pub returns : goal.returns
returns c = lines_do_join
