use Rattle.part_laws.proofs.TextLines.{parts_of_texts}
use Rattle.part_laws.proofs.laws.parts_of_texts_are_the_report.Goals as goal

pub returns : goal.returns
returns c = parts_of_texts c.merged_texts_are_the_report.ensures
