use Rattle.std.proofs.Common.{◌-◌, nat_lt, sym, ap, ◌∙◌, arith}
use Rattle.std.proofs.lemmas.Nat.{one_shl}
use Rattle.bit_rows.specs.Words.{has_bit}
use Rattle.bit_rows.proofs.words.MaskBits.{has_bit-low_ones}
use Rattle.bit_rows.proofs.masks.low_ones.Goals as goal

pub returns-then-count-eq64-clause-places : goal.returns-then-count-eq64-clause-places
returns-then-count-eq64-clause-places c k within = has_bit-low_ones 64 k ∙ ap (nat_lt k) (sym c.if-count-eq64.true)

pub returns-else-count-eq64-clause-places : goal.returns-else-count-eq64-clause-places
returns-else-count-eq64-clause-places c k within =
    ap (λ m. has_bit (m - 1) k) (one_shl c.args.count 64 (omega arith)) ∙ has_bit-low_ones c.args.count k
