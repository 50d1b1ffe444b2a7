use Rattle.flow_parts.proofs.MergedTexts.{texts_are}
use Rattle.flow_parts.proofs.laws.merged_texts_are_the_report.Goals as goal

pub returns : goal.returns
returns c = texts_are
