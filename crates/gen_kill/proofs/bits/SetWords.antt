-- Words of sets of bits
use Rattle.std.proofs.Common.{◌≡◌, ℕ, ◌+◌, ◌*◌, ◌/◌, ◌%◌, ◌^◌, ◌<◌, ◌⊎◌, Bool, true, false, ◌&&◌, ◌||◌, nat_eq, List, length}
use Rattle.std.proofs.Common.{get_or, set, bit_or, inl, inr, refl, sym, ap, ap₂, ◌∙◌, arith}
use Rattle.std.proofs.lemmas.Bool.{cases_eq, and_right, eq-eqb, ne_eqb}
use Rattle.std.proofs.lemmas.List.{get_or_read, get_or-set_same, get_or-set_other}
use Rattle.std.proofs.lemmas.Nat.{same_from_place}
use Rattle.std.proofs.Math.Bool.{or-false}
use Rattle.bit_rows.specs.Words.{has_bit}
use Rattle.bit_rows.proofs.words.WordBits.{has_bit-or, has_bit-zero, has_bit-shifted_same, has_bit-shifted_other}
use Rattle.gen_kill.specs.code.BitTables.{HasRow, table_has}

pub nat_eq-sym : (a b : ℕ) → nat_eq a b ≡ nat_eq b a
nat_eq-sym a b = grind arith

-- a word of a single bit, and one without it
pub word_of_bit : (n word k : ℕ) → k < 64 → n / 64 ≡ word → has_bit (1 * 2 ^ (n % 64) % 2 ^ 64) k ≡ nat_eq (64 * word + k) n
word_of_bit n word k within same = by_case (cases_eq k (n % 64))
  where
    by_case : (k ≡ n % 64) ⊎ (k ≡ n % 64 → ⊥) → has_bit (1 * 2 ^ (n % 64) % 2 ^ 64) k ≡ nat_eq (64 * word + k) n
    by_case (inl here) =
        let below : n % 64 < 64 = omega arith in
        ap (has_bit (1 * 2 ^ (n % 64) % 2 ^ 64)) here ∙ has_bit-shifted_same (n % 64) below ∙ sym (eq-eqb (64 * word + k) n (omega arith))
    by_case (inr other) =
        let below : n % 64 < 64 = omega arith in
        has_bit-shifted_other (n % 64) k below other ∙ sym (ne_eqb (64 * word + k) n (λ e. other (omega arith)))

pub word_of_another : (n word k : ℕ) → k < 64 → (n / 64 ≡ word → ⊥) → has_bit 0 k ≡ nat_eq (64 * word + k) n
word_of_another n word k within other = has_bit-zero k ∙ sym (ne_eqb (64 * word + k) n (λ e. other (omega arith)))

-- a bit that is set in a block of words
module _ (words : List ℕ) (width row bit word : ℕ) (there : HasRow words width row) (inside : bit / 64 < width)
    (found : word ≡ get_or words (row * width + bit / 64) word) where
  abbrev written : List ℕ
  written = set words (row * width + bit / 64) (bit_or word (1 * 2 ^ (bit % 64) % 2 ^ 64))

  place : row * width + bit / 64 < length words
  place = omega (arith, there)

  is_word : word ≡ get_or words (row * width + bit / 64) 0
  is_word = get_or_read words (row * width + bit / 64) word place found 0

  pub set_bit : (r b : ℕ) → b / 64 < width → table_has (set words (row * width + bit / 64) (bit_or word (1 * 2 ^ (bit % 64) % 2 ^ 64))) width r b
      ≡ (table_has words width r b || (nat_eq r row && nat_eq b bit))
  set_bit r b below = by_word (cases_eq (r * width + b / 64) (row * width + bit / 64))
    where
      by_bit : (r ≡ row) → (b / 64 ≡ bit / 64) → (b % 64 ≡ bit % 64) ⊎ (b % 64 ≡ bit % 64 → ⊥)
          → has_bit (1 * 2 ^ (bit % 64) % 2 ^ 64) (b % 64) ≡ (nat_eq r row && nat_eq b bit)
      by_bit same_row same_word (inl same) =
          let fits : bit % 64 < 64 = omega arith in
          ap (has_bit (1 * 2 ^ (bit % 64) % 2 ^ 64)) same ∙ has_bit-shifted_same (bit % 64) fits
          ∙ ap₂ ◌&&◌ (sym (eq-eqb r row same_row)) (sym (eq-eqb b bit (omega arith)))
      by_bit same_row same_word (inr other) =
          let fits : bit % 64 < 64 = omega arith in
          has_bit-shifted_other (bit % 64) (b % 64) fits other
          ∙ sym (and_right (nat_eq r row) (nat_eq b bit) (ne_eqb b bit (λ e. other (ap (λ n. n % 64) e))))

      apart : (r * width + b / 64 ≡ row * width + bit / 64 → ⊥) → (t u : Bool) → nat_eq r row ≡ t → nat_eq b bit ≡ u → false ≡ (t && u)
      apart other false u is_t is_u = refl
      apart other true false is_t is_u = refl
      apart other true true is_t is_u =
          let same_row : r ≡ row = grind arith in
          let same_bit : b ≡ bit = grind arith in
          absurd (other (ap₂ (λ m n. m * width + n / 64) same_row same_bit))

      by_word : (r * width + b / 64 ≡ row * width + bit / 64) ⊎ (r * width + b / 64 ≡ row * width + bit / 64 → ⊥)
          → table_has (set words (row * width + bit / 64) (bit_or word (1 * 2 ^ (bit % 64) % 2 ^ 64))) width r b
          ≡ (table_has words width r b || (nat_eq r row && nat_eq b bit))
      by_word (inl same) =
          let (same_row, same_word) = same_from_place r (b / 64) row (bit / 64) width below inside same in
          ap (λ i. has_bit (get_or written i 0) (b % 64)) same
          ∙ ap (λ v. has_bit v (b % 64)) (get_or-set_same words (row * width + bit / 64) (bit_or word (1 * 2 ^ (bit % 64) % 2 ^ 64)) 0 place)
          ∙ has_bit-or word (1 * 2 ^ (bit % 64) % 2 ^ 64) (b % 64)
          ∙ ap₂ ◌||◌ (ap (λ v. has_bit v (b % 64)) (is_word ∙ ap (λ i. get_or words i 0) (sym same)))
          (by_bit same_row same_word (cases_eq (b % 64) (bit % 64)))
      by_word (inr other) =
          ap (λ v. has_bit v (b % 64))
          (get_or-set_other words (row * width + bit / 64) (r * width + b / 64) (bit_or word (1 * 2 ^ (bit % 64) % 2 ^ 64)) 0 other)
          ∙ sym (or-false (table_has words width r b))
          ∙ ap (λ t. table_has words width r b || t) (apart other (nat_eq r row) (nat_eq b bit) refl refl)
