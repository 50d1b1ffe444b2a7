-- Which words lie within a range.
use Rattle.std.proofs.Common.{◌≡◌, ℕ, ◌<◌, ◌≤◌, true, false, arith}
use Rattle.report_answers.specs.code.Chosen.{is_within}
use Rattle.report_answers.specs.declared.chosen_bits.WordRange.{WordRange}

pub is_in : (range : WordRange) (word : ℕ) → range.first ≤ word → word < range.end → is_within range word ≡ true
is_in range word from until = grind (arith, from, until)

pub is_below : (range : WordRange) (word : ℕ) → word < range.first → is_within range word ≡ false
is_below range word below = grind (arith, below)

pub is_past : (range : WordRange) (word : ℕ) → range.end ≤ word → is_within range word ≡ false
is_past range word past = grind (arith, past)
