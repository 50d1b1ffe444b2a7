-- The words of a board at the end, where a pass counted every slice as finished.
use Rattle.std.proofs.Common.{◌≡◌, ℕ, ◌+◌, ◌*◌, ◌/◌, ◌%◌, ◌<◌, ◌≤◌, ◌↔◌, Bool, true, false, List, length, get_or, Option, Some, None, IsSome, refl}
use Rattle.std.proofs.Common.{sym, ap, ◌∙◌, subst, arith}
use mathlib.Core.Logic.{dite}
use native.Mathlib.Decide.{dec_le}
use Rattle.std.specs.Int.{bit_at}
use Rattle.std.proofs.lemmas.Bool.{false_from_ne_true}
use Rattle.atomic_table.specs.Table.{Final, Seen}
use Rattle.bit_rows.specs.RowSet.{contains}
use Rattle.bit_rows.specs.RowTable.{set_at}
use Rattle.bit_rows.specs.Words.{has_bit}
use Rattle.bit_rows.specs.Slices.{CoverBits}
use Rattle.bit_rows.proofs.slices.Cuts.{slice_of_bit}
use Rattle.slice_board.specs.Passes.{PassState, IsWhole, times, loads_from}
use Rattle.slice_board.specs.Boards.{BoardState, slice_count, words_for}
use Rattle.slice_board.specs.Teams.{IsDrained}
use Rattle.slice_board.specs.Lawful.{shows_at}
use Rattle.slice_board.specs.code.Words.{LawfulTable, tally_words, row_place}
use Rattle.slice_board.specs.code.Closing.{Counted}
use Rattle.slice_board.specs.code.Worded.{word_of, worded_table}
use Rattle.slice_board.specs.declared.view.About.{About}
use Rattle.slice_board.specs.declared.view.View.{View}
use Rattle.slice_board.proofs.words.Sums.{shows_at-append}
use Rattle.slice_board.proofs.passes.Counting.{shown_each, shown_below-full, shows_at-loads}
use Rattle.slice_board.proofs.words.Calls.{one_of_bit, bit_of_one}
use Rattle.slice_board.proofs.words.Worded.{bit_there, bit_within}

-- ---- what a count says
module _ {T : Type 0} (slices done : ℕ) (old new : PassState T) (c : Counted slices old new done) where
  -- where as many slices are finished as there are, each done bit was seen set
  pub whole : slices ≤ done → (s : ℕ) → s < slices → 0 < shows_at (s / 64) (s % 64) new.counted
  whole all s h =
      let one = shown_each slices c.once.values (omega (arith, c.once.shown)) s h in
      let e : 0 + s / 64 ≡ s / 64 = omega arith in
      let a = ap (shows_at (s / 64) (s % 64)) c.once.added in
      let b = shows_at-append (s / 64) (s % 64) old.counted (loads_from 0 c.once.values) in
      let d = ap (λ (k : ℕ). shows_at k (s % 64) (loads_from 0 c.once.values)) e in
      omega (arith, shows_at-loads 0 (s / 64) (s % 64) c.once.values)

  -- where the pass finished every slice, the count shows all
  pub full : ((s : ℕ) → s < slices → 0 < times s old.finished) → done ≡ slices
  full all = c.once.shown ∙ shown_below-full slices c.once.values (λ s h. c.has_finished s h (all s h))

  -- where a pass with the whole board is drained, it finished every slice
  pub all_finished : (board : BoardState T) → slices ≡ slice_count board.cut → IsDrained board old → IsWhole old → (s : ℕ) → s < slices
      → 0 < times s old.finished
  all_finished board same drained whole s low =
      let here = drained.all_claimed s (omega arith) in
      let equal = drained.finished s in
      dite (dec_le 1 (times s old.claimed)) (λ some. omega arith) (λ none. let own = c.found_own whole s low (omega arith) in omega arith)

  -- and where it holds one, it does not
  pub not_whole : (s : ℕ) → s < slices → times s old.finished < times s old.claimed → slices ≤ done → ⊥
  not_whole s h held all = omega (arith, shown_each slices c.once.values (omega (arith, c.once.shown)) s h, c.lacks_held s h held)

-- ---- what the words hold

module _ {T : Type 0} (wants : T → ℕ → ℕ → Type 0) (about : About T) where
  -- the words of the rows hold exactly what is wanted
  pub record IsEnd (ws : List ℕ) : Type 0 where
    pub here : (p b : ℕ) → p < about.points → b < about.cut.bits → wants about.wanted p b
        → bit_at (get_or ws (row_place about p (b / 64)) 0) (b % 64) ≡ 1
    pub only : (p b : ℕ) → p < about.points → b / 64 < words_for about.cut.bits → bit_at (get_or ws (row_place about p (b / 64)) 0) (b % 64) ≡ 1
        → wants about.wanted p b

  pub finals : (id : ℕ) (v : View T) (ws : List ℕ) (xs : List (Unit {0})) → CoverBits about.cut
      → ((s : ℕ) → s < slice_count about.cut → 0 < shows_at (s / 64) (s % 64) v.counted)
      → Final (Seen (LawfulTable wants about) id v) ws xs → IsEnd ws
  finals id v ws xs cover all f =
      let lawful = f.1.0.lawful in
      let known = lawful.known id v f.1.1 in
      subst IsEnd f.2 (record {
        here = λ p b hp hb hw.
            let s = slice_of_bit about.cut cover b hb in
            let s1 = s.1 in
            lawful.complete s.0 s.1 (known.counted (s.0 / 64) (s.0 % 64) (omega arith) (all s.0 s.1)) p b hp hw (s.2, s.3);
        only = λ p b hp hq one.
            let back : 64 * (b / 64) + b % 64 ≡ b = omega arith in
            subst (λ (n : ℕ). wants about.wanted p n) back (lawful.within p (b / 64) (b % 64) hp hq one);
      })

  module _ (ws : List ℕ) (end : IsEnd ws) (tallies : ℕ) (flags : List Bool) (bits : ℕ) (tallies_is : tallies ≡ tally_words about)
      (bits_is : bits ≡ about.cut.bits) (points_is : length flags ≡ about.points) where
    -- where the points' words begin
    abbrev first : ℕ
    first = 2 * tallies

    abbrev posted : ℕ → ℕ → ℕ
    posted = word_of ws first (length flags)

    place_is : (point word : ℕ) → first + point + word * length flags ≡ row_place about point word
    place_is point word = ap (λ (n : ℕ). first + point + word * n) points_is ∙ omega (arith, tallies_is)

    same_word : (point word : ℕ) → posted point word ≡ get_or ws (row_place about point word) 0
    same_word point word = ap (λ (k : ℕ). get_or ws k 0) (place_is point word)

    wanted_there : (point bit : ℕ) → point < length flags → bit / 64 < words_for bits → bit_at (posted point (bit / 64)) (bit % 64) ≡ 1
        → wants about.wanted point bit
    wanted_there point bit low within one =
        end.only point bit (omega (arith, low, points_is)) (omega (arith, within, bits_is))
        (ap (λ (w : ℕ). bit_at w (bit % 64)) (sym (same_word point (bit / 64))) ∙ one)

    module _ (range : (point bit : ℕ) → wants about.wanted point bit → (point < length flags) × (bit < bits)) where
      -- no bit is there past the last
      pub clear_past : (point word k : ℕ) → point < length flags → word < words_for bits → k < 64 → bits ≤ 64 * word + k
          → has_bit (posted point word) k ≡ false
      clear_past point word k low within small past =
          let q : (64 * word + k) / 64 ≡ word = omega (arith, small) in
          let j : (64 * word + k) % 64 ≡ k = omega (arith, small) in
          false_from_ne_true (has_bit (posted point word) k) (λ set.
          let one : bit_at (posted point ((64 * word + k) / 64)) ((64 * word + k) % 64) ≡ 1 =
          (λ i. bit_at (posted point (q i)) (j i)) ∙ one_of_bit (posted point word) k set in
          omega (arith, past, (range point (64 * word + k) (wanted_there point (64 * word + k) low (omega (arith, within, q)) one)).1))

      -- the sets of the points' words have exactly what is wanted
      pub words_exact : (point bit : ℕ) → (contains (set_at (worded_table bits flags posted) point) bit ≡ true) ↔ wants about.wanted point bit
      words_exact point bit = (
        (λ set.
            let inside = bit_within bits flags posted point bit set in
            let has = sym (bit_there bits flags posted point bit inside.0 inside.1) ∙ set in
            wanted_there point bit inside.0 (omega (arith, inside.1)) (one_of_bit (posted point (bit / 64)) (bit % 64) has)),
        (λ wanted.
            let inside = range point bit wanted in
            let one = end.here point bit (omega (arith, inside.0, points_is)) (omega (arith, inside.1, bits_is)) wanted in
            bit_there bits flags posted point bit inside.0 inside.1
            ∙ bit_of_one (posted point (bit / 64)) (bit % 64) (ap (λ (w : ℕ). bit_at w (bit % 64)) (same_word point (bit / 64)) ∙ one)),
      )

pub some_one : (o : Option ℕ) → IsSome o → (s : ℕ) × (o ≡ Some s)
some_one (Some s) h = (s, refl)
some_one None h = absurd (cc)
