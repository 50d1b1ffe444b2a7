use Rattle.std.proofs.Common.{◌||◌, ap, ◌∙◌}
use Rattle.bit_rows.specs.Words.{has_bit}
use Rattle.bit_rows.proofs.words.WordBits.{has_bit-or}
use Rattle.gk_solve.proofs.lanes.across_word.Goals as goal

pub returns : goal.returns
returns c k low =
    has_bit-or c.args.added c.unkilled_word.result k ∙ ap (λ bit. has_bit c.args.added k || bit) (c.unkilled_word.ensures k low)
