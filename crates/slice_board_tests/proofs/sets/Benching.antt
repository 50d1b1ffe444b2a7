-- Sets that are asked bit by bit, and bits that were noted.
use Rattle.std.proofs.Common.{◌≡◌, ℕ, ◌/◌, ◌%◌, ◌^◌, ◌<◌, ◌≤◌, ◌⊎◌, Bool, true, false, not, ◌&&◌, eqb, eqb-true, nat_eq, List, [], ◌∷◌, ◌++◌}
use Rattle.std.proofs.Common.{length, bit_and, w64, sym, refl, ap, ◌∙◌, subst, inl, inr, ⊎_elim, arith}
use mathlib.Core.Logic.{dite}
use native.Mathlib.Decide.{ℕ_discrete, dec_le}
use Rattle.std.specs.Int.{bit_not}
use Rattle.std.proofs.lemmas.Bool.{both_ways, or_cases, and_parts}
use Rattle.std.proofs.lemmas.List.{get_or_past}
use Rattle.bit_rows.specs.Words.{has_bit}
use Rattle.bit_rows.specs.RowSet.{RowSet, hi_of, contains, empty_set, with_word}
use Rattle.bit_rows.specs.RowTable.{RowTable, IsUniform, set_at, with_set}
use Rattle.bit_rows.proofs.words.WordBits.{has_bit-and, has_bit-not, has_bit-zero}
use Rattle.bit_rows.proofs.sets.RowSets.{contains-below, contains-above}
use Rattle.bit_rows.proofs.sets.SetLaws.{HasRange-with_word, contains-with_word, contains-empty_set}
use Rattle.bit_rows.proofs.sets.Tables.{set_at-with_set_same, set_at-with_set_other}
use Rattle.slice_board.specs.Passes.{logged_at, logged_word, IsLogged}
use Rattle.slice_board.specs.declared.view.LoggedWord.{LoggedWord}
use Rattle.slice_board.proofs.words.Sums.{logged_at-append, logged_here}
use Rattle.slice_board.proofs.words.Calls.{one_of_bit}

pub has_it : (wanted mine : Bool) → (wanted && not mine) ≡ false → wanted ≡ true → mine ≡ true
has_it true true h k = refl
has_it true false h k = absurd (both_ways true h refl)
has_it false mine h k = absurd (both_ways false refl k)

-- a mask of which nothing lies outside a word lies within it
pub within_word : (mask word i : ℕ) → word < 2 ^ 64 → i < 64 → nat_eq (bit_and mask (bit_not w64 word)) 0 ≡ true → has_bit mask i ≡ true
    → has_bit word i ≡ true
within_word mask word i fits within none set =
    let zero : bit_and mask (bit_not w64 word) ≡ 0 = eqb-true (bit_and mask (bit_not w64 word)) 0 none in
    let clear : (has_bit mask i && not (has_bit word i)) ≡ false =
    ap (λ (b : Bool). has_bit mask i && b) (sym (has_bit-not word i fits within)) ∙ sym (has_bit-and mask (bit_not w64 word) i)
    ∙ ap (λ v. has_bit v i) zero ∙ has_bit-zero i in
    has_it (has_bit mask i) (has_bit word i) clear set

-- a bit of a set lies in the range of its table
pub in_range : (rows : RowTable) (point bit : ℕ) → IsUniform rows → contains (set_at rows point) bit ≡ true → (rows.lo ≤ bit) × (bit < rows.hi)
in_range rows point bit uniform has =
    let range = uniform.ranges point in
    let low = range.lo in
    let high = range.hi in (
      dite (dec_le rows.lo bit) (λ e. e)
          (λ n. absurd (both_ways (contains (set_at rows point) bit) (contains-below (set_at rows point) bit (omega arith)) has)),
      dite (dec_le rows.hi bit)
          (λ e. absurd (both_ways (contains (set_at rows point) bit) (contains-above (set_at rows point) bit (omega arith)) has)) (λ n. omega arith),
    )

-- a point that is not there has no bit
pub past_point : (rows : RowTable) (point bit : ℕ) → length rows.sets ≤ point → contains (set_at rows point) bit ≡ false
past_point rows point bit past =
    ap (λ (s : RowSet). contains s bit) (get_or_past rows.sets point (empty_set rows.lo rows.hi) past) ∙ contains-empty_set rows.lo rows.hi bit

with_word_range : (s : RowSet) (word mask b : ℕ) → contains (with_word s word mask) b ≡ true → (s.lo ≤ b) × (b < hi_of s)
with_word_range s word mask b has =
    let range = HasRange-with_word s word mask in
    let low = range.lo in
    let high = range.hi in (
      dite (dec_le s.lo b) (λ e. e)
          (λ n. absurd (both_ways (contains (with_word s word mask) b) (contains-below (with_word s word mask) b (omega arith)) has)),
      dite (dec_le (hi_of s) b) (λ e.
          absurd (both_ways (contains (with_word s word mask) b) (contains-above (with_word s word mask) b (omega arith)) has)) (λ n. omega arith),
    )

-- what a table has after a word was put in
pub noted_word : (old new : RowTable) (point word mask : ℕ) → IsUniform old → point < length old.flags
    → new ≡ with_set old point (with_word (set_at old point) word mask)
    → (p b : ℕ) → contains (set_at new p) b ≡ true
    → (contains (set_at old p) b ≡ true) ⊎ ((p ≡ point) × (b / 64 ≡ word) × (has_bit mask (b % 64) ≡ true))
noted_word old new point word mask uniform there is p b has = dite (ℕ_discrete p point)
    (λ same.
    let s : RowSet = set_at old point in
    let range = uniform.ranges point in
    let low = range.lo in
    let high = range.hi in
    let here : set_at new p ≡ with_word s word mask =
    (λ i. set_at (is i) (same i)) ∙ set_at-with_set_same old point (with_word s word mask) (omega (arith, uniform.count)) in
    let made : contains (with_word s word mask) b ≡ true = ap (λ (t : RowSet). contains t b) (sym here) ∙ has in
    let bounds = with_word_range s word mask b made in
    let lower = bounds.0 in
    let upper = bounds.1 in
    ⊎_elim
    (λ e. inl (ap (λ (k : ℕ). contains (set_at old k) b) same ∙ e))
    (λ e. let parts = and_parts (eqb (b / 64) word) (has_bit mask (b % 64)) e in inr (same, eqb-true (b / 64) word parts.0, parts.1))
    (or_cases (contains s b) (eqb (b / 64) word && has_bit mask (b % 64)) (sym (contains-with_word s word mask b lower upper) ∙ made)))
    (λ other. inl (ap (λ (t : RowSet). contains t b) (sym (set_at-with_set_other old point p (with_word (set_at old point) word mask) other))
    ∙ ap (λ (t : RowTable). contains (set_at t p) b) (sym is) ∙ has))

-- what was noted before a post, and its mask, are marks after it
pub marked_more : (l : List LoggedWord) (m : LoggedWord) (point bit : ℕ) → IsLogged l point bit → IsLogged (l ++ m ∷ []) point bit
marked_more l m point bit marked = omega (arith, marked, logged_at-append point (bit / 64) (bit % 64) l (m ∷ []))

pub marked_new : (l : List LoggedWord) (point word mask p b : ℕ) → p ≡ point → b / 64 ≡ word → has_bit mask (b % 64) ≡ true
    → IsLogged (l ++ logged_word point word mask ∷ []) p b
marked_new l point word mask p b same at set =
    subst (λ (a : ℕ × ℕ). 0 < logged_at a.0 a.1 (b % 64) (l ++ logged_word point word mask ∷ [])) (λ i. (sym same i, sym at i))
    (omega (arith, logged_here point word mask (b % 64) l, one_of_bit mask (b % 64) set))
