-- What the steps of the calls ask, from what a contract asks.
use Rattle.std.proofs.Common.{◌≡◌, ℕ, ◌+◌, ◌*◌, ◌/◌, ◌%◌, ◌^◌, ◌<◌, List, [], true, eqb-true, eq-eqb, sym, ap, ◌∙◌, subst, arith, Option, Some}
use mathlib.Core.Logic.{dite}
use native.Mathlib.Decide.{dec_le}
use Rattle.std.specs.Int.{bit_at}
use Rattle.std.proofs.lemmas.Nat.Bits.{bit_at_above}
use Rattle.atomic_table.specs.Seated.{TableId}
use Rattle.bit_rows.specs.Words.{has_bit}
use Rattle.bit_rows.specs.RowTable.{RowTable}
use Rattle.bit_rows.specs.Slices.{Slices}
use Rattle.slice_board.specs.Passes.{PassState, times, logged_at, IsLogged}
use Rattle.slice_board.specs.Boards.{BoardState, slice_count, words_for, about_board, IsOf, IsPlace, InSlice}
use Rattle.slice_board.specs.code.Words.{about_key, tally_words, row_place}
use Rattle.slice_board.specs.code.Fields.{pass_state, IsKept, IsLaid}
use Rattle.slice_board.specs.code.Plays.{Sat, ShowsOwn, FoundOwn}
use Rattle.slice_board.specs.declared.view.About.{About}
use Rattle.slice_board.specs.declared.view.View.{View}
use Rattle.slice_board.specs.declared.view.LoggedWord.{LoggedWord}
use Rattle.slice_board.specs.declared.rule.Key.{Key}
use Rattle.slice_board.proofs.passes.Keeps.{IsPosted}
use Rattle.slice_board.proofs.passes.Passing.{board_state, same_about, same_slices, same_points, same_bits, same_wanted, knows, held_low}

pub one_of_bit : (word i : ℕ) → has_bit word i ≡ true → bit_at word i ≡ 1
unfolding has_bit
one_of_bit word i h = eqb-true (bit_at word i) 1 h

pub bit_of_one : (word i : ℕ) → bit_at word i ≡ 1 → has_bit word i ≡ true
unfolding has_bit
bit_of_one word i h = eq-eqb (bit_at word i) 1 h

-- a logged bit is one of its place in its word
pub at_place : (marks : List LoggedWord) (point word place : ℕ) → place < 64 → IsLogged marks point (64 * word + place)
    → 0 < logged_at point word place marks
at_place marks point word place within marked =
    let q : (64 * word + place) / 64 ≡ word = omega arith in
    let j : (64 * word + place) % 64 ≡ place = omega arith in
    subst (λ (a : ℕ × ℕ). 0 < logged_at point a.0 a.1 marks) (λ i. (q i, j i)) marked

-- the seat after a step: its view is w
module _ {T : Type 0} {t u : TableId} (m : Sat T) {n : Sat T} {w : View T} (held : Option ℕ) (next : ℕ) (same : u ≡ t) (after : n ≡ (w, m.1)) where
  pub state_after : pass_state u n.0 held next ≡ pass_state t w held next
  state_after = λ i. pass_state (same i) (after i).0 held next

  pub kept_after : m.1 ≡ [] → IsKept (pass_state t w held next) → IsKept (pass_state u n.0 held next) × (n.1 ≡ [])
  kept_after none k = (subst IsKept (sym state_after) k, (λ i. (after i).1) ∙ none)

module _ {T : Type 0} {wants : T → ℕ → ℕ → Type 0} {table : TableId} {key : Key T} {cut : Slices} {blank : RowTable} {board : BoardState T}
    (laid : IsLaid wants table key cut blank) (board_is : board_state table key cut blank ≡ board) where
  pub same_cut : key.cut.value ≡ board.cut
  same_cut = laid.cut_is ∙ ap (λ (b : BoardState T). b.cut) board_is

  pub place_of : (p q : ℕ) → IsPlace board p q → (p < (about_key key).points) × (q < words_for (about_key key).cut.bits)
  place_of p q h = (subst (λ (n : ℕ). p < n) (same_points laid board_is) h.0, subst (λ (n : ℕ). q < n) (same_bits laid board_is) h.1)

  pub row_is : (i p q : ℕ) → i ≡ row_place (about_board board) p q → i ≡ row_place (about_key key) p q
  row_is i p q e = e ∙ ap (λ (a : About T). row_place a p q) (same_about laid board_is)

  pub tally_is : (n m : ℕ) → n ≡ words_for m → m ≡ slice_count cut → n ≡ tally_words (about_key key)
  tally_is n m e f = e ∙ ap words_for (f ∙ sym (ap slice_count laid.cut_is))

  pub tally_below : (word : ℕ) → word < words_for (slice_count board.cut) → word < tally_words (about_key key)
  tally_below word h = subst (λ (n : ℕ). word < words_for n) (same_slices laid board_is) h

  pub wanted_mask : (p q mask : ℕ) → mask < 2 ^ 64 → ((i : ℕ) → i < 64 → has_bit mask i ≡ true → wants board.wanted p (64 * q + i)) → (j : ℕ)
      → bit_at mask j ≡ 1 → wants key.wanted.value p (64 * q + j)
  wanted_mask p q mask fits h j one = dite (dec_le 64 j)
      (λ far. absurd (omega (arith, bit_at_above mask 64 j fits far)))
      (λ near. subst (λ (t : T). wants t p (64 * q + j)) (sym (same_wanted laid board_is)) (h j (omega arith) (bit_of_one mask j one)))

  module _ {seat : TableId} {v : View T} {held : Option ℕ} {next : ℕ} {pass : PassState T} (pass_is : pass_state seat v held next ≡ pass)
      (of : IsOf board pass) where
    pub slice_low : (s : ℕ) → IsKept (pass_state seat v held next) → pass.held ≡ Some s
        → (s < slice_count (about_key key).cut) × (times s v.finished < times s v.claimed)
    slice_low s k h =
        held_low (pass_state seat v held next) (about_key key) s k (knows laid board_is pass_is of) (ap (λ (p : PassState T). p.held) pass_is ∙ h)

    pub is_posted : (s : ℕ) → ((point bit : ℕ) → wants board.wanted point bit → InSlice board.cut s bit → IsLogged pass.posted point bit)
        → IsPosted wants (about_key key) v s
    is_posted s h p b hp hw hi = (
      omega (arith, (laid.within p b hw).1, ap (λ (c : Slices). c.bits) laid.cut_is),
      subst (λ (l : List LoggedWord). IsLogged l p b) (sym (ap (λ (p : PassState T). p.posted) pass_is))
          (h p b (subst (λ (t : T). wants t p b) (same_wanted laid board_is) hw) (subst (λ (c : Slices). InSlice c s b) same_cut hi)),
    )

    pub shows_own : (word value : ℕ) → ShowsOwn (slice_count (about_key key).cut) v.claimed v.finished word value
        → ShowsOwn (slice_count board.cut) pass.claimed pass.finished word value
    shows_own word value =
        subst (λ (a : ℕ × PassState T). ShowsOwn a.0 a.1.claimed a.1.finished word value) (λ i. (sym (same_slices laid board_is) i, pass_is i))

    pub finds_own : FoundOwn (slice_count (about_key key).cut) v.share v.halvings v.claimed v.found
        → FoundOwn (slice_count board.cut) pass.share pass.halvings pass.claimed pass.found
    finds_own =
        subst (λ (a : ℕ × PassState T). FoundOwn a.0 a.1.share a.1.halvings a.1.claimed a.1.found)
        (λ i. (sym (same_slices laid board_is) i, pass_is i))
