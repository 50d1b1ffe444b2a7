-- From the words of a set to the set and back.
use Rattle.std.proofs.Common.{◌≡◌, ℕ, ◌+◌, ◌*◌, ◌/◌, ◌%◌, ◌^◌, ◌<◌, not, ◌&&◌, ◌||◌, sym, ap, ap₂, ◌∙◌, inl, inr, bit_and}
use Rattle.std.proofs.Common.{bit_or, w64, arith}
use Rattle.std.specs.Int.{bit_not}
use Rattle.std.proofs.lemmas.Bool.{cases_lt, both_ways, and_right}
use Rattle.std.proofs.Math.Bool.{and-true}
use Rattle.bit_rows.specs.Words.{has_bit, range_mask, MaskLiesWithin}
use Rattle.bit_rows.specs.RowSet.{RowSet, HasRange, IsWordOf, hi_of, contains, union, intersection, difference, complement}
use Rattle.bit_rows.proofs.words.WordBits.{has_bit-and, has_bit-or, has_bit-not, has_bit-mask_inside, has_bit-mask_below, has_bit-mask_above}
use Rattle.bit_rows.proofs.words.WordBits.{same_words}
use Rattle.bit_rows.proofs.sets.RowSets.{contains-below, contains-above, same_from_contains}
use Rattle.bit_rows.proofs.sets.SetLaws.{HasRange-complement, contains-union, contains-intersection, contains-difference, contains-complement}

-- a set has one word of each number
pub same_word : (s : RowSet) (w a b : ℕ) → IsWordOf s w a → IsWordOf s w b → a < 2 ^ 64 → b < 2 ^ 64 → a ≡ b
same_word s w a b p q a_fits b_fits = same_words a b a_fits b_fits (λ i within. p i within ∙ sym (q i within))

-- a set is determined by its range and its words
pub same_from_words : (s t : RowSet) → HasRange s t.lo (hi_of t) → (word : ℕ → ℕ) → ((w : ℕ) → IsWordOf s w (word w))
    → ((w : ℕ) → IsWordOf t w (word w)) → s ≡ t
same_from_words s t range word p q = same_from_contains s t range (λ b low high.
    let place : b % 64 < 64 = omega arith in
    let back : 64 * (b / 64) + b % 64 ≡ b = omega arith in
    ap (contains s) (sym back) ∙ sym (p (b / 64) (b % 64) place) ∙ q (b / 64) (b % 64) place ∙ ap (contains t) back)

-- a set's word lies within its range, so it may be posted to a row of that range
pub MaskLiesWithin-word : (s : RowSet) (w word : ℕ) → IsWordOf s w word → MaskLiesWithin s.lo (hi_of s) w word
MaskLiesWithin-word s w word p i within one =
    elim (cases_lt (64 * w + i) s.lo) [
      | inl below ↦ absurd (both_ways (has_bit word i) (p i within ∙ contains-below s (64 * w + i) below) one)
      | inr low ↦ elim (cases_lt (64 * w + i) (hi_of s)) [
        | inl high ↦ (low, high)
        | inr above ↦ absurd (both_ways (has_bit word i) (p i within ∙ contains-above s (64 * w + i) above) one)
      ]
    ]

-- ---- operations on words are those on sets
module _ (s t : RowSet) (range : HasRange t s.lo (hi_of s)) (w a b : ℕ) (p : IsWordOf s w a) (q : IsWordOf t w b) where
  pub IsWordOf-union : IsWordOf (union s t) w (bit_or a b)
  IsWordOf-union i within = has_bit-or a b i ∙ ap₂ ◌||◌ (p i within) (q i within) ∙ sym (contains-union s t range (64 * w + i))

  pub IsWordOf-intersection : IsWordOf (intersection s t) w (bit_and a b)
  IsWordOf-intersection i within =
      has_bit-and a b i ∙ ap₂ ◌&&◌ (p i within) (q i within) ∙ sym (contains-intersection s t range (64 * w + i))

  pub IsWordOf-difference : b < 2 ^ 64 → IsWordOf (difference s t) w (bit_and a (bit_not w64 b))
  IsWordOf-difference fits i within =
      has_bit-and a (bit_not w64 b) i
      ∙ ap₂ ◌&&◌ (p i within) (has_bit-not b i fits within ∙ ap not (q i within))
      ∙ sym (contains-difference s t range (64 * w + i))

-- a word of the complement within the range
pub IsWordOf-complement : (s : RowSet) (w a : ℕ) → IsWordOf s w a → a < 2 ^ 64
    → IsWordOf (complement s) w (bit_and (bit_not w64 a) (range_mask s.lo (hi_of s) w))
IsWordOf-complement s w a p fits i within =
    has_bit-and (bit_not w64 a) (range_mask s.lo (hi_of s) w) i
    ∙ elim (cases_lt (64 * w + i) s.lo) [
      | inl below ↦
          and_right (has_bit (bit_not w64 a) i) (has_bit (range_mask s.lo (hi_of s) w) i) (has_bit-mask_below s.lo (hi_of s) w i within below)
          ∙ sym (contains-below (complement s) (64 * w + i) (omega (arith, below, (HasRange-complement s).lo)))
      | inr low ↦ elim (cases_lt (64 * w + i) (hi_of s)) [
        | inl high ↦
            ap₂ ◌&&◌ (has_bit-not a i fits within ∙ ap not (p i within)) (has_bit-mask_inside s.lo (hi_of s) w i within low high)
            ∙ and-true (not (contains s (64 * w + i)))
            ∙ sym (contains-complement s (64 * w + i) low high)
        | inr above ↦
            and_right (has_bit (bit_not w64 a) i) (has_bit (range_mask s.lo (hi_of s) w) i) (has_bit-mask_above s.lo (hi_of s) w i within above)
            ∙ sym (contains-above (complement s) (64 * w + i) (omega (arith, above, (HasRange-complement s).hi)))
      ]
    ]
