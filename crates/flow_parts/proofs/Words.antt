-- The words of a part's bits.
use Rattle.std.proofs.Common.{◌≡◌, ◌∙◌, ℕ, ◌*◌, ◌/◌, ◌<◌, ◌≤◌, ◌&&◌, true, false, Bool, nat_le, nat_lt, ap₂, arith, inl, inr, sym}
use Rattle.std.proofs.Math.Nat.{div-le_of_le-mul, mul-le-mul_right}
use Rattle.std.proofs.lemmas.Bool.{cases_lt}
use Rattle.flow_parts.specs.Cuts.{cut_end}

-- no part ends behind the groups
pub cut_within : (groups count part : ℕ) → part ≤ count → cut_end groups count part ≤ groups
cut_within groups count part last = div-le_of_le-mul count (mul-le-mul_right groups last)

le_part : (low bit : ℕ) → nat_le (8 * low) (bit / 64) ≡ nat_le low (bit / 512)
le_part low bit = elim (cases_lt (bit / 64) (8 * low)) [
  | inl before ↦ (
      let early : bit / 512 < low = omega (arith, before) in
      let first : nat_le (8 * low) (bit / 64) ≡ false = grind (arith, before) in
      let second : nat_le low (bit / 512) ≡ false = grind (arith, early) in
      first ∙ sym second)
  | inr behind ↦ (
      let late : low ≤ bit / 512 = omega (arith, behind) in
      let first : nat_le (8 * low) (bit / 64) ≡ true = grind (arith, behind) in
      let second : nat_le low (bit / 512) ≡ true = grind (arith, late) in
      first ∙ sym second)
]

lt_part : (high bit : ℕ) → nat_lt (bit / 64) (8 * high) ≡ nat_lt (bit / 512) high
lt_part high bit = elim (cases_lt (bit / 64) (8 * high)) [
  | inl before ↦ (
      let early : bit / 512 < high = omega (arith, before) in
      let first : nat_lt (bit / 64) (8 * high) ≡ true = grind (arith, before) in
      let second : nat_lt (bit / 512) high ≡ true = grind (arith, early) in
      first ∙ sym second)
  | inr behind ↦ (
      let late : high ≤ bit / 512 = omega (arith, behind) in
      let first : nat_lt (bit / 64) (8 * high) ≡ false = grind (arith, behind) in
      let second : nat_lt (bit / 512) high ≡ false = grind (arith, late) in
      first ∙ sym second)
]

-- eight words of 64 bits are a group
pub by_words : (low high bit : ℕ)
    → (nat_le (8 * low) (bit / 64) && nat_lt (bit / 64) (8 * high)) ≡ (nat_le low (bit / 512) && nat_lt (bit / 512) high)
by_words low high bit = ap₂ (λ (a b : Bool). a && b) (le_part low bit) (lt_part high bit)
