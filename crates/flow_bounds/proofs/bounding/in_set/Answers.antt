use Rattle.std.proofs.Common.{◌||◌, bit_and, ap, ◌∙◌}
use Rattle.bit_rows.specs.Words.{has_bit}
use Rattle.bit_rows.proofs.words.WordBits.{has_bit-and, has_bit-or}
use Rattle.flow_bounds.proofs.bounding.in_set.Goals as goal

pub returns : goal.returns
returns c k = has_bit-or c.args.generated (bit_and c.args.brought c.args.preserved) k
    ∙ ap (λ b. has_bit c.args.generated k || b) (has_bit-and c.args.brought c.args.preserved k)
