use Rattle.std.proofs.Common.{arith}
use Rattle.bit_rows.proofs.words.WordBits.{has_bit-not}
use Rattle.flow_bounds.proofs.frame.complement.Goals as goal

pub returns : goal.returns
returns c k small = has_bit-not c.args.word k (omega arith) small
