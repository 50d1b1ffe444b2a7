-- Ones that lie side by side, in a word and in a set
use Rattle.std.proofs.Common.{◌≡◌, ℕ, ◌+◌, ◌-◌, ◌/◌, ◌%◌, ◌^◌, ◌<◌, ◌≤◌, Bool, true, false, min, eqb, sym, ap, ◌∙◌, subst, w64, arith, ◌⊎◌, inl, inr}
use Rattle.std.specs.Int.{bit_at, trailing_zeros}
use Rattle.std.specs.Int.Count.{trailing_of_zero}
use Rattle.std.proofs.Math.Nat.{div-div-eq-div-mul}
use Rattle.std.proofs.lemmas.Nat.{pow-add}
use Rattle.std.proofs.lemmas.Nat.Bits.{bit_at-trailing_zeros, bit_at-zero}
use Rattle.std.proofs.lemmas.Bool.{cases_lt}
use Rattle.bit_rows.specs.Words.{has_bit}
use Rattle.flow_texts.specs.code.Runs.{IsRunBefore}

bit_at-shifted : (n k i : ℕ) → bit_at (n / 2 ^ k) i ≡ bit_at n (k + i)
bit_at-shifted n k i = ap (λ m. m % 2) (div-div-eq-div-mul n (2 ^ k) (2 ^ i) ∙ ap (λ m. n / m) (sym (pow-add 2 k i)))

-- The lowest 1 of a word: 64 where there is none.
record IsLowest (n place : ℕ) : Type 0 where
  one : place < 64 → bit_at n place ≡ 1
  none : (i : ℕ) → i < place → bit_at n i ≡ 0

lowest : (n : ℕ) → n < 2 ^ 64 → IsLowest n (trailing_zeros w64 n)
lowest n fits = by_size (cases_lt 0 n) where
  by_size : (0 < n) ⊎ (n ≤ 0) → IsLowest n (trailing_zeros w64 n)
  by_size (inl some) = let found = bit_at-trailing_zeros w64 n some fits in record { one = λ _. found.1; none = found.2 }
  by_size (inr small) =
      let nothing : 0 ≡ n = omega (arith, small) in
      let all : trailing_zeros w64 0 ≡ 64 = trailing_of_zero 64 in
      subst (λ m. IsLowest m (trailing_zeros w64 m)) nothing
      (record { one = λ below. absurd (omega (arith, all, below)); none = λ i _. bit_at-zero i })

-- The first place from some place on at which a word is 1: 64 where there is none.
pub record IsNextOne (word from place : ℕ) : Type 0 where
  pub ordered : from ≤ place
  pub within : place ≤ 64
  pub before : (k : ℕ) → from ≤ k → k < place → has_bit word k ≡ false
  pub one : place < 64 → has_bit word place ≡ true

pub next_one : (word from : ℕ) → word / 2 ^ from < 2 ^ 64 → from < 64 → IsNextOne word from (min (from + trailing_zeros w64 (word / 2 ^ from)) 64)
unfolding has_bit
next_one word from fits within =
    let low : IsLowest (word / 2 ^ from) (trailing_zeros w64 (word / 2 ^ from)) = lowest (word / 2 ^ from) fits in
    let t : ℕ = trailing_zeros w64 (word / 2 ^ from) in
    record {
      ordered = omega (arith, within);
      within = omega arith;
      before = λ k above below.
          let place : from + (k - from) ≡ k = omega (arith, above) in
          ap (λ x. eqb x 1)
          (ap (bit_at word) (sym place) ∙ sym (bit_at-shifted word from (k - from)) ∙ low.none (k - from) (omega (arith, above, below)));
      one = λ below.
          let place : min (from + t) 64 ≡ from + t = omega (arith, below) in
          ap (λ x. eqb x 1) (ap (bit_at word) place ∙ sym (bit_at-shifted word from t) ∙ low.one (omega (arith, below)));
    }

-- what holds of a word's places holds of its bits
pub bits_of_word : (word first end : ℕ) (member : ℕ → Bool) → ((k : ℕ) → first + k < end → has_bit word k ≡ member (first + k))
    → (from to : ℕ) (value : Bool) → first + to ≤ end → ((k : ℕ) → from ≤ k → k < to → has_bit word k ≡ value)
    → (n : ℕ) → first + from ≤ n → n < first + to → member n ≡ value
bits_of_word word first end member same from to value inside each n above below =
    let place : first + (n - first) ≡ n = omega (arith, above) in
    ap member (sym place) ∙ sym (same (n - first) (omega (arith, above, below, inside)))
    ∙ each (n - first) (omega (arith, above)) (omega (arith, above, below))

-- a place further on, behind numbers that are no members
pub run_further : (member : ℕ → Bool) (place next first end : ℕ) → IsRunBefore member place first end → place ≤ next
    → ((n : ℕ) → place ≤ n → n < next → member n ≡ false)
    → IsRunBefore member next first end
run_further member place next first end is further none = record {
  ordered = is.ordered;
  before = omega (arith, is.before, further);
  inside = is.inside;
  behind = λ n above below. by_place n above below (cases_lt n place);
}
  where
    by_place : (n : ℕ) → end ≤ n → n < next → (n < place) ⊎ (place ≤ n) → member n ≡ false
    by_place n above below (inl before) = is.behind n above before
    by_place n above below (inr behind) = none n behind below

-- a run that begins where the one before ends
pub run_longer : (member : ℕ → Bool) (first end next : ℕ) → IsRunBefore member end first end → end ≤ next
    → ((n : ℕ) → end ≤ n → n < next → member n ≡ true)
    → IsRunBefore member next first next
run_longer member first end next is further each = record {
  ordered = omega (arith, is.ordered, further);
  before = omega arith;
  inside = λ n above below. by_place n above below (cases_lt n end);
  behind = λ n above below. absurd (omega (arith, above, below));
}
  where
    by_place : (n : ℕ) → first ≤ n → n < next → (n < end) ⊎ (end ≤ n) → member n ≡ true
    by_place n above below (inl before) = is.inside n above before
    by_place n above below (inr behind) = each n behind below

pub run_new : (member : ℕ → Bool) (first end : ℕ) → first ≤ end → ((n : ℕ) → first ≤ n → n < end → member n ≡ true) → IsRunBefore member end first end
run_new member first end ordered each =
    record { ordered = ordered; before = omega arith; inside = each; behind = λ n above below. absurd (omega (arith, above, below)) }
