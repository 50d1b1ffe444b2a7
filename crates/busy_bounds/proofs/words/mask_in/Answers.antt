use Rattle.bit_rows.proofs.words.WordBits.{has_bit-max}
use Rattle.busy_bounds.proofs.words.mask_in.Goals as goal

pub returns-in-Unknown : goal.returns-in-Unknown
returns-in-Unknown c = λ k small there. has_bit-max k small
