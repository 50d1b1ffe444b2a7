-- Words of the bits below a limit and within a range.
use Rattle.std.proofs.Common.{◌≡◌, ℕ, ◌+◌, ◌-◌, ◌*◌, ◌^◌, ◌<◌, ◌≤◌, min, Bool, not, ◌&&◌, eqb, nat_le, nat_lt, inl, inr, sym, ap, ap₂, ◌∙◌}
use Rattle.std.proofs.Common.{w64, bit_and, arith}
use Rattle.std.specs.Int.{bit_not}
use Rattle.std.specs.Int.Bits.{and_lt}
use Rattle.std.proofs.Math.Bool.{and-true}
use Rattle.std.proofs.Math.Nat.{pow-le-pow_right}
use Rattle.std.proofs.lemmas.Bool.{cases_lt, lt-ltb, le-ltb, le-leb, lt-leb, and_right}
use Rattle.std.proofs.lemmas.Nat.{pow_pos}
use Rattle.std.proofs.lemmas.Nat.Bits.{bit_at_ones, bit_at_ones_above}
use Rattle.bit_rows.specs.Words.{has_bit, range_mask}
use Rattle.bit_rows.proofs.words.WordBits.{has_bit-and, has_bit-not, has_bit-mask_inside, has_bit-mask_below, has_bit-mask_above, same_words}

-- the mask of a range, place by place
pub has_bit-range_mask : (lo hi w i : ℕ) → i < 64 → has_bit (range_mask lo hi w) i ≡ (nat_le lo (64 * w + i) && nat_lt (64 * w + i) hi)
has_bit-range_mask lo hi w i within = elim (cases_lt (64 * w + i) lo) [
  | inl below ↦
      has_bit-mask_below lo hi w i within below ∙ sym (ap (λ (t : Bool). t && nat_lt (64 * w + i) hi) (lt-leb lo (64 * w + i) below))
  | inr low ↦ elim (cases_lt (64 * w + i) hi) [
    | inl high ↦
        has_bit-mask_inside lo hi w i within low high
        ∙ sym (ap₂ ◌&&◌ (le-leb lo (64 * w + i) low) (lt-ltb (64 * w + i) hi high))
    | inr above ↦
        has_bit-mask_above lo hi w i within above ∙ sym (and_right (nat_le lo (64 * w + i)) (nat_lt (64 * w + i) hi) (le-ltb (64 * w + i) hi above))
  ]
]

range_mask-fits : (lo hi w : ℕ) → range_mask lo hi w < 2 ^ 64
unfolding range_mask
range_mask-fits lo hi w =
    let most : 2 ^ min 64 (hi - 64 * w) ≤ 2 ^ 64 = pow-le-pow_right (omega arith) {i = min 64 (hi - 64 * w)} {j = 64} (omega arith) in
    omega (arith, most, pow_pos (min 64 (lo - 64 * w)))

-- the lowest ones of a word
pub has_bit-low_ones : (count k : ℕ) → has_bit (2 ^ count - 1) k ≡ nat_lt k count
unfolding has_bit
has_bit-low_ones count k = elim (cases_lt k count) [
  | inl below ↦ ap (λ x. eqb x 1) (bit_at_ones count k below) ∙ sym (lt-ltb k count below)
  | inr above ↦ ap (λ x. eqb x 1) (bit_at_ones_above count k above) ∙ sym (le-ltb k count above)
]

-- as many of them as a limit leaves to a word are the places of the bits below it
pub low_place : (limit w count k : ℕ) → k < 64 → count ≡ min (limit - 64 * w) 64 → nat_lt k count ≡ nat_lt (64 * w + k) limit
low_place limit w count k within is = elim (cases_lt (64 * w + k) limit) [
  | inl below ↦ lt-ltb k count (omega (arith, below, within, is)) ∙ sym (lt-ltb (64 * w + k) limit below)
  | inr past ↦ le-ltb k count (omega (arith, past, is)) ∙ sym (le-ltb (64 * w + k) limit past)
]

between : (n lo hi : ℕ) → (nat_lt n hi && not (nat_lt n lo)) ≡ (nat_le lo n && nat_lt n hi)
between n lo hi = elim (cases_lt n lo) [
  | inl below ↦
      and_right (nat_lt n hi) (not (nat_lt n lo)) (ap not (lt-ltb n lo below))
      ∙ sym (ap (λ (t : Bool). t && nat_lt n hi) (lt-leb lo n below))
  | inr low ↦
      ap (λ (t : Bool). nat_lt n hi && not t) (le-ltb n lo low)
      ∙ and-true (nat_lt n hi)
      ∙ sym (ap (λ (t : Bool). t && nat_lt n hi) (le-leb lo n low))
]

-- the word of the bits below hi without that of the bits below lo
module _ (lo hi w below_lo below_hi : ℕ) (lo_fits : below_lo < 2 ^ 64) (hi_fits : below_hi < 2 ^ 64)
    (of_lo : (k : ℕ) → k < 64 → has_bit below_lo k ≡ nat_lt (64 * w + k) lo)
    (of_hi : (k : ℕ) → k < 64 → has_bit below_hi k ≡ nat_lt (64 * w + k) hi) where
  pub has_bit-between : (k : ℕ) → k < 64
      → has_bit (bit_and below_hi (bit_not w64 below_lo)) k ≡ (nat_le lo (64 * w + k) && nat_lt (64 * w + k) hi)
  has_bit-between k within =
      has_bit-and below_hi (bit_not w64 below_lo) k
      ∙ ap₂ ◌&&◌ (of_hi k within) (has_bit-not below_lo k lo_fits within ∙ ap not (of_lo k within))
      ∙ between (64 * w + k) lo hi

  pub between-range_mask : bit_and below_hi (bit_not w64 below_lo) ≡ range_mask lo hi w
  between-range_mask =
      let inverse_fits : bit_not w64 below_lo < 2 ^ 64 = omega arith in
      same_words (bit_and below_hi (bit_not w64 below_lo)) (range_mask lo hi w) (and_lt 64 below_hi (bit_not w64 below_lo) hi_fits inverse_fits)
      (range_mask-fits lo hi w) (λ k within. has_bit-between k within ∙ sym (has_bit-range_mask lo hi w k within))
