use Rattle.std.proofs.Common.{◌≡◌, ◌<◌, ◌+◌, ◌%◌, ℕ, true}
use Rattle.bit_rows.specs.Words.{has_bit}
use Rattle.gk_solve.proofs.slice_words.group_mask.Given as goal

abbrev pub invariant-loop-w : goal.invariant-loop-w
invariant-loop-w l = (w : ℕ) → w < l.w → has_bit l.mask ((l.first + w) % 64) ≡ true
