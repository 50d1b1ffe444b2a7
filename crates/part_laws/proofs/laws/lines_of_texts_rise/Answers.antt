use Rattle.part_laws.proofs.TextLines.{lines_of_texts_rise}
use Rattle.part_laws.proofs.laws.lines_of_texts_rise.Goals as goal

pub returns : goal.returns
returns c = lines_of_texts_rise
