use Rattle.checked_examples.proofs.Lines.{lines_do_fit}
use Rattle.checked_examples.proofs.line_laws.lines_fit.Goals as goal

pub returns : goal.returns
returns c = lines_do_fit
