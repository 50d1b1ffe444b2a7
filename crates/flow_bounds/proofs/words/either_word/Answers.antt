use Rattle.std.proofs.Common.{arith}
use Rattle.std.proofs.lemmas.Nat.{or_lt}
use Rattle.bit_rows.proofs.words.WordBits.{has_bit-or}
use Rattle.flow_bounds.proofs.words.either_word.Goals as goal

pub returns-clause-bits : goal.returns-clause-bits
returns-clause-bits c k = has_bit-or c.args.first c.args.second k

pub returns-clause-fits : goal.returns-clause-fits
returns-clause-fits c = or_lt 64 c.args.first c.args.second (omega arith) (omega arith)
