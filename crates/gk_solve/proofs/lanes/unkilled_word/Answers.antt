use Rattle.std.proofs.Common.{◌&&◌, ap, ◌∙◌, w64, arith}
use Rattle.std.specs.Int.{bit_not}
use Rattle.bit_rows.specs.Words.{has_bit}
use Rattle.bit_rows.proofs.words.WordBits.{has_bit-and, has_bit-not}
use Rattle.gk_solve.proofs.lanes.unkilled_word.Goals as goal

pub returns : goal.returns
returns c k low =
    has_bit-and c.args.before (bit_not w64 c.args.kill) k ∙ ap (λ bit. has_bit c.args.before k && bit) (has_bit-not c.args.kill k (omega arith) low)
