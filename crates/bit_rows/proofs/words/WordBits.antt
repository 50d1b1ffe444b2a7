-- One bit of a word, and words by their bits.
use Rattle.std.proofs.Common.{◌≡◌, ◌≢◌, ℕ, zero, suc, ◌+◌, ◌-◌, ◌*◌, ◌%◌, ◌^◌, ◌<◌, ◌≤◌, min, max, true, false, not, ◌&&◌, ◌||◌, eqb, refl, sym, ap}
use Rattle.std.proofs.Common.{◌∙◌, w64, bit_and, bit_or, arith}
use Rattle.std.specs.Int.{bit_at, bit_not, trailing_zeros}
use Rattle.std.proofs.lemmas.Nat.Bits.{bit_at_and, bit_at_or, bit_at_not, bit_at-lt, bit_at_ones, bit_at-zero, same_from_bits_below}
use Rattle.std.proofs.lemmas.Nat.Bits.{bit_at_mask_inside, bit_at_mask_below, bit_at_mask_above, bit_at-pow_same, bit_at-pow_other}
use Rattle.std.proofs.lemmas.Nat.Bits.{bit_at-trailing_zeros}
use Rattle.std.proofs.lemmas.Nat.{one_shl}
use Rattle.std.proofs.lemmas.Bool.{false≢true}
use Rattle.bit_rows.specs.Words.{has_bit, range_mask}

test_min : (x y : ℕ) → x < 2 → y < 2 → eqb (min x y) 1 ≡ (eqb x 1 && eqb y 1)
test_min zero y p q = grind arith
test_min (suc zero) zero p q = refl
test_min (suc zero) (suc zero) p q = refl
test_min (suc zero) (suc (suc y)) p q = absurd (omega arith)
test_min (suc (suc x)) y p q = absurd (omega arith)

test_max : (x y : ℕ) → x < 2 → y < 2 → eqb (max x y) 1 ≡ (eqb x 1 || eqb y 1)
test_max zero zero p q = refl
test_max zero (suc zero) p q = refl
test_max zero (suc (suc y)) p q = absurd (omega arith)
test_max (suc zero) zero p q = refl
test_max (suc zero) (suc zero) p q = refl
test_max (suc zero) (suc (suc y)) p q = absurd (omega arith)
test_max (suc (suc x)) y p q = absurd (omega arith)

test_not : (x : ℕ) → x < 2 → eqb (1 - x) 1 ≡ not (eqb x 1)
test_not zero p = refl
test_not (suc zero) p = refl
test_not (suc (suc x)) p = absurd (omega arith)

test_same : (x y : ℕ) → x < 2 → y < 2 → eqb x 1 ≡ eqb y 1 → x ≡ y
test_same zero zero p q e = refl
test_same zero (suc zero) p q e = absurd (false≢true e)
test_same zero (suc (suc y)) p q e = absurd (omega arith)
test_same (suc zero) zero p q e = absurd (false≢true (sym e))
test_same (suc zero) (suc zero) p q e = refl
test_same (suc zero) (suc (suc y)) p q e = absurd (omega arith)
test_same (suc (suc x)) y p q e = absurd (omega arith)

-- a place of `a & b` is 1 where it is in both
pub has_bit-and : (a b i : ℕ) → has_bit (bit_and a b) i ≡ (has_bit a i && has_bit b i)
unfolding has_bit
has_bit-and a b i = ap (λ x. eqb x 1) (bit_at_and a b i) ∙ test_min (bit_at a i) (bit_at b i) (bit_at-lt a i) (bit_at-lt b i)

-- a place of `a | b` is 1 where it is in either
pub has_bit-or : (a b i : ℕ) → has_bit (bit_or a b) i ≡ (has_bit a i || has_bit b i)
unfolding has_bit
has_bit-or a b i = ap (λ x. eqb x 1) (bit_at_or a b i) ∙ test_max (bit_at a i) (bit_at b i) (bit_at-lt a i) (bit_at-lt b i)

-- a place of `!a` is 1 where that of a is 0
pub has_bit-not : (a i : ℕ) → a < 2 ^ 64 → i < 64 → has_bit (bit_not w64 a) i ≡ not (has_bit a i)
unfolding has_bit
has_bit-not a i fits within = ap (λ x. eqb x 1) (bit_at_not w64 a i fits within) ∙ test_not (bit_at a i) (bit_at-lt a i)

pub has_bit-zero : (i : ℕ) → has_bit 0 i ≡ false
unfolding has_bit
has_bit-zero i = ap (λ x. eqb x 1) (bit_at-zero i)

-- each place of `u64::MAX` is 1
pub has_bit-max : (i : ℕ) → i < 64 → has_bit (2 ^ 64 - 1) i ≡ true
unfolding has_bit
has_bit-max i within = ap (λ x. eqb x 1) (bit_at_ones 64 i within)

-- two words with the same bits are equal
pub same_words : (a b : ℕ) → a < 2 ^ 64 → b < 2 ^ 64 → ((i : ℕ) → i < 64 → has_bit a i ≡ has_bit b i) → a ≡ b
unfolding has_bit
same_words a b a_fits b_fits same =
    same_from_bits_below 64 a b a_fits b_fits (λ i within. test_same (bit_at a i) (bit_at b i) (bit_at-lt a i) (bit_at-lt b i) (same i within))

-- the mask of a range is 1 at the places of the range
pub has_bit-mask_inside : (lo hi w i : ℕ) → i < 64 → lo ≤ 64 * w + i → 64 * w + i < hi → has_bit (range_mask lo hi w) i ≡ true
unfolding has_bit range_mask
has_bit-mask_inside lo hi w i within low high =
    ap (λ x. eqb x 1) (bit_at_mask_inside (min 64 (lo - 64 * w)) (min 64 (hi - 64 * w)) i (omega arith) (omega arith))

pub has_bit-mask_below : (lo hi w i : ℕ) → i < 64 → 64 * w + i < lo → has_bit (range_mask lo hi w) i ≡ false
unfolding has_bit range_mask
has_bit-mask_below lo hi w i within low =
    ap (λ x. eqb x 1) (bit_at_mask_below (min 64 (lo - 64 * w)) (min 64 (hi - 64 * w)) i (omega arith))

pub has_bit-mask_above : (lo hi w i : ℕ) → i < 64 → hi ≤ 64 * w + i → has_bit (range_mask lo hi w) i ≡ false
unfolding has_bit range_mask
has_bit-mask_above lo hi w i within high =
    ap (λ x. eqb x 1) (bit_at_mask_above (min 64 (lo - 64 * w)) (min 64 (hi - 64 * w)) i (omega arith))

-- `1 << k` has place k alone
pub has_bit-shifted_same : (k : ℕ) → k < 64 → has_bit (1 * 2 ^ k % 2 ^ 64) k ≡ true
unfolding has_bit
has_bit-shifted_same k within = ap (λ m. eqb (bit_at m k) 1) (one_shl k 64 within) ∙ ap (λ x. eqb x 1) (bit_at-pow_same k)

pub has_bit-shifted_other : (k i : ℕ) → k < 64 → i ≢ k → has_bit (1 * 2 ^ k % 2 ^ 64) i ≡ false
unfolding has_bit
has_bit-shifted_other k i within other = ap (λ m. eqb (bit_at m i) 1) (one_shl k 64 within) ∙ ap (λ x. eqb x 1) (bit_at-pow_other k i other)

-- a word that is not 0 has a place
pub has_bit-some : (word : ℕ) → 0 < word → word < 2 ^ 64 → (i : ℕ) × (i < 64) × (has_bit word i ≡ true)
unfolding has_bit
has_bit-some word some fits =
    let lowest = bit_at-trailing_zeros w64 word some fits in
    (trailing_zeros w64 word, lowest.0, ap (λ x. eqb x 1) lowest.1)
