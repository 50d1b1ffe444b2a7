use Rattle.std.proofs.Common.{◌||◌, ap, ◌∙◌, bit_and}
use Rattle.bit_rows.specs.Words.{has_bit}
use Rattle.bit_rows.proofs.words.WordBits.{has_bit-and, has_bit-or}
use Rattle.gk_solve.proofs.lanes.new_or_preserved_word.Goals as goal

pub returns : goal.returns
returns c k =
    has_bit-or c.args.new (bit_and c.args.before c.args.preserved) k ∙ ap (λ bit. has_bit c.args.new k || bit) (has_bit-and c.args.before c.args.preserved k)
