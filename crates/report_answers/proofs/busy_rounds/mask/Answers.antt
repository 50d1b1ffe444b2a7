use Rattle.bit_rows.proofs.words.WordBits.{has_bit-max}
use Rattle.report_answers.proofs.busy_rounds.mask.Goals as goal

pub returns-in-None : goal.returns-in-None
returns-in-None c = λ k small low table. has_bit-max k small
