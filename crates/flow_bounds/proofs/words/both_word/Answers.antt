use Rattle.bit_rows.proofs.words.WordBits.{has_bit-and}
use Rattle.flow_bounds.proofs.words.both_word.Goals as goal

pub returns : goal.returns
returns c k = has_bit-and c.args.first c.args.second k
