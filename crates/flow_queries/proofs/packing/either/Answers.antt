use Rattle.bit_rows.proofs.words.WordBits.{has_bit-or}
use Rattle.flow_queries.proofs.packing.either.Goals as goal

pub returns : goal.returns
returns c = λ k. has_bit-or c.args.first c.args.second k
