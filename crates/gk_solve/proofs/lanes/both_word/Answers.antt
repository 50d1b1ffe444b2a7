use Rattle.bit_rows.proofs.words.WordBits.{has_bit-and}
use Rattle.gk_solve.proofs.lanes.both_word.Goals as goal

pub returns : goal.returns
returns c k = has_bit-and c.args.first c.args.second k
