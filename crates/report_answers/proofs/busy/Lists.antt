-- Lists of the words with a bit of tests' sets.
use Rattle.std.proofs.Common.{◌≡◌, ◌↔◌, ◌∙◌, ℕ, zero, suc, ◌+◌, ◌*◌, ◌/◌, ◌%◌, ◌<◌, ◌≤◌, Bool, true, false, List, [], ◌∷◌, ◌++◌, Some, length}
use Rattle.std.proofs.Common.{if◌then◌else◌, nat_eq, slice_get, inl, inr, refl, sym, ap, subst, arith}
use Rattle.std.proofs.lemmas.Bool.{cases_lt}
use Rattle.std.proofs.lemmas.Option.{get_or_from_slice_get, slice_get_within}
use Rattle.bit_rows.specs.Words.{has_bit}
use Rattle.bit_rows.proofs.words.WordBits.{has_bit-zero}
use Rattle.flow_graph.specs.Analyses.{IsInTable}
use Rattle.flow_graph.specs.Universes.{bits}
use Rattle.flow_graph.specs.declared.analysis.Analysis.TheVariants.{Busy}
use Rattle.flow_queries.specs.Queries.{IsWordAt}
use Rattle.report_answers.specs.code.Busy.{AreBusy, IsBusy, NoneBusy, busy_query, busy_mask, no_word}
use Rattle.report_answers.specs.code.Busy.AreBusy.{ended, linked}
use Rattle.report_answers.specs.code.Chosen.{wants, wants_word}
use Rattle.report_answers.specs.declared.busy_words.BusyWord.{BusyWord}
use Rattle.report_answers.specs.declared.chosen_bits.ChosenBits.{ChosenBits}
use Rattle.tac_program.specs.Programs.{Program}

pub get_before : (old more : List BusyWord) (place : ℕ) (busy : BusyWord) → slice_get old place ≡ Some busy
    → slice_get (old ++ more) place ≡ Some busy
get_before [] more place busy is = absurd (cc is)
get_before (one ∷ old) more zero busy is = is
get_before (one ∷ old) more (suc place) busy is = get_before old more place busy is

pub get_last : (old : List BusyWord) (busy : BusyWord) → slice_get (old ++ busy ∷ []) (length old) ≡ Some busy
get_last [] busy = refl
get_last (one ∷ old) busy = get_last old busy

none_in_zero : (word k : ℕ) → word ≡ 0 → has_bit word k ≡ true → ⊥
none_in_zero word k is has =
    let both : true ≡ false = sym has ∙ ap (λ w. has_bit w k) is ∙ has_bit-zero k in
    cc both

module _ (chosen : ChosenBits) (program : Program) (point : ℕ) where
  -- a list stays where words are kept
  pub still : (old new : List BusyWord) → ((place : ℕ) (busy : BusyWord) → slice_get old place ≡ Some busy → slice_get new place ≡ Some busy)
      → (from number : ℕ) → AreBusy chosen program old point from number → AreBusy chosen program new point from number
  still old new kept from _ (ended _ none) = ended from none
  still old new kept from _ (linked _ place busy there lower above within asked gap answers rest) =
      linked from place busy (kept place busy there) lower above within asked gap answers (still old new kept (suc busy.word) busy.next rest)

  -- the number of a list's first word is one of them
  pub number_within : (words : List BusyWord) (from number : ℕ) → AreBusy chosen program words point from number → number ≤ length words
  number_within words from _ (ended _ none) = omega arith
  number_within words from _ (linked _ place busy there lower above within asked gap answers rest) =
      let inside = slice_get_within words place busy there in omega (arith, inside)

  -- where nothing begins before a word, the list tells from that word on
  pub passed : (words : List BusyWord) (word from number : ℕ) → word ≤ from → NoneBusy chosen program point word from
      → AreBusy chosen program words point from number
      → AreBusy chosen program words point word number
  passed words word from _ less gap (ended _ none) = ended word (λ bit low is. elim (cases_lt bit (64 * from)) [
    | inl before ↦ gap bit low before is
    | inr behind ↦ none bit behind is
  ])
  passed words word from _ less gap (linked _ place busy there lower above within asked between answers rest) =
      linked word place busy there lower (omega (arith, less, above)) within asked
      (λ bit low high is. elim (cases_lt bit (64 * from)) [
        | inl before ↦ gap bit low before is
        | inr behind ↦ between bit behind high is
      ])
      answers rest

  -- a word without a bit has none of the expressions
  pub none_there : (word : ℕ) → IsWordAt program (busy_query point word) 0 → NoneBusy chosen program point word (suc word)
  none_there word answers bit low high is =
      let k : ℕ = bit % 64 in
      let at : 64 * word + k ≡ bit = omega (arith, low, high) in
      let has = (answers k (omega arith)).1
      (subst (λ (b : ℕ). (b < bits program Busy) × IsInTable program Busy point b) (sym at) (is.1, is.2)) in
      none_in_zero 0 k refl has

  -- a word put before a list
  pub put_before : (words new : List BusyWord) (busy : BusyWord) (next : ℕ) → new ≡ words ++ busy ∷ [] → busy.next ≡ next
      → 64 * busy.word < bits program Busy → wants_word chosen Busy busy.word ≡ true → IsWordAt program (busy_query point busy.word) busy.mask
      → AreBusy chosen program words point (suc busy.word) next
      → AreBusy chosen program new point busy.word (suc (length words))
  put_before words new busy next is first within asked answers rest =
      let behind : AreBusy chosen program words point (suc busy.word) busy.next =
      subst (λ (n : ℕ). AreBusy chosen program words point (suc busy.word) n) (sym first) rest in
      subst (λ (all : List BusyWord). AreBusy chosen program all point busy.word (suc (length words))) (sym is)
      (linked busy.word (length words) busy (get_last words busy) (number_within words (suc busy.word) busy.next behind) (omega arith) within asked
      (λ bit low high is. absurd (omega (arith, low, high))) answers
      (still words (words ++ busy ∷ []) (get_before words (busy ∷ [])) (suc busy.word) busy.next behind))

  mask_at_end : (words : List BusyWord) (most word : ℕ) → busy_mask words most 0 word ≡ 0
  mask_at_end words zero word = refl
  mask_at_end words (suc most) word = refl

  mask_here : (words : List BusyWord) (most place word : ℕ) (busy : BusyWord) → slice_get words place ≡ Some busy → (same : Bool)
      → nat_eq busy.word word ≡ same
      → busy_mask words (suc most) (suc place) word ≡ (if same then busy.mask else busy_mask words most busy.next word)
  mask_here words most place word busy there same is =
      ap (λ (b : BusyWord). if nat_eq b.word word then b.mask else busy_mask words most b.next word)
      (get_or_from_slice_get words place busy no_word there)
      ∙ ap (λ t. if t then busy.mask else busy_mask words most busy.next word) is

  -- before a list's words there is none
  mask_before : (words : List BusyWord) (from number most word : ℕ) → number ≤ most → word < from → AreBusy chosen program words point from number
      → busy_mask words most number word ≡ 0
  mask_before words from _ most word room less (ended _ none) = mask_at_end words most word
  mask_before words from _ zero word room less (linked _ place busy there lower above within asked gap answers rest) = absurd (omega (arith, room))
  mask_before words from _ (suc most) word room less (linked _ place busy there lower above within asked gap answers rest) =
      let other : nat_eq busy.word word ≡ false = grind (arith, less, above) in
      mask_here words most place word busy there false other
      ∙ mask_before words (suc busy.word) busy.next most word (omega (arith, lower, room)) (omega (arith, less, above)) rest

  known_here : (words : List BusyWord) (from most place bit : ℕ) (busy : BusyWord) (same : Bool) → nat_eq busy.word (bit / 64) ≡ same
      → slice_get words place ≡ Some busy → 64 * from ≤ bit → wants_word chosen Busy busy.word ≡ true
      → NoneBusy chosen program point from busy.word → IsWordAt program (busy_query point busy.word) busy.mask
      → (bit / 64 < suc busy.word → busy_mask words most busy.next (bit / 64) ≡ 0)
      → (64 * suc busy.word ≤ bit → (has_bit (busy_mask words most busy.next (bit / 64)) (bit % 64) ≡ true)
      ↔ IsBusy chosen program point bit)
      → (has_bit (busy_mask words (suc most) (suc place) (bit / 64)) (bit % 64) ≡ true) ↔ IsBusy chosen program point bit
  known_here words from most place bit busy true is there low asked gap answers before behind =
      let word : busy.word ≡ bit / 64 = grind (arith, is) in
      let at : 64 * busy.word + bit % 64 ≡ bit = omega (arith, word) in
      let mask = mask_here words most place (bit / 64) busy there true is in
      let told =
      subst (λ (b : ℕ). (has_bit (busy_mask words (suc most) (suc place) (bit / 64)) (bit % 64) ≡ true)
      ↔ ((b < bits program Busy) × IsInTable program Busy point b)) at
      (subst (λ (w : ℕ). (has_bit w (bit % 64) ≡ true)
      ↔ ((64 * busy.word + bit % 64 < bits program Busy) × IsInTable program Busy point (64 * busy.word + bit % 64))) (sym mask)
      (answers (bit % 64) (omega arith))) in
      let on : wants chosen Busy bit ≡ true = ap (wants_word chosen Busy) (sym word) ∙ asked in (
        (λ has. let found = told.0 has in (on, found.0, found.1)),
        (λ found. told.1 (found.1, found.2)),
      )
  known_here words from most place bit busy false is there low asked gap answers before behind =
      let mask = mask_here words most place (bit / 64) busy there false is in
      elim (cases_lt bit (64 * busy.word)) [
        | inl early ↦ (
          let none : busy_mask words (suc most) (suc place) (bit / 64) ≡ 0 = mask ∙ before (omega (arith, early)) in
              (λ has. absurd (none_in_zero _ (bit % 64) none has)),
          (λ both. absurd (gap bit low early both)),
        )
        | inr late ↦ (
            let apart : ¬ (busy.word ≡ bit / 64) = grind (arith, is) in
            let later : 64 * suc busy.word ≤ bit = omega (arith, apart, late) in
            subst (λ (w : ℕ). (has_bit w (bit % 64) ≡ true) ↔ IsBusy chosen program point bit) (sym mask)
            (behind later))
      ]

  -- what the words of a list tell
  pub busy_known : (words : List BusyWord) (from number most bit : ℕ) → number ≤ most → 64 * from ≤ bit → AreBusy chosen program words point from number
      → (has_bit (busy_mask words most number (bit / 64)) (bit % 64) ≡ true) ↔ IsBusy chosen program point bit
  busy_known words from _ most bit room low (ended _ none) = (
    (λ has. absurd (none_in_zero _ (bit % 64) (mask_at_end words most (bit / 64)) has)),
    (λ both. absurd (none bit low both)),
  )
  busy_known words from _ zero bit room low (linked _ place busy there lower above within asked gap answers rest) = absurd (omega (arith, room))
  busy_known words from _ (suc most) bit room low (linked _ place busy there lower above within asked gap answers rest) =
      known_here words from most place bit busy (nat_eq busy.word (bit / 64)) refl there low asked gap answers
      (λ less. mask_before words (suc busy.word) busy.next most (bit / 64) (omega (arith, lower, room)) less rest)
      (λ later. busy_known words (suc busy.word) busy.next most bit (omega (arith, lower, room)) later rest)

  -- a list's first word, and the rest of it
  pub record IsFirst (words : List BusyWord) (from place : ℕ) (busy : BusyWord) : Type 0 where
    pub lower : busy.next ≤ place
    pub above : from ≤ busy.word
    pub within : 64 * busy.word < bits program Busy
    pub asked : wants_word chosen Busy busy.word ≡ true
    pub gap : NoneBusy chosen program point from busy.word
    pub answers : IsWordAt program (busy_query point busy.word) busy.mask
    pub rest : AreBusy chosen program words point (suc busy.word) busy.next

  pub first_known : (words : List BusyWord) (from number place : ℕ) (busy : BusyWord) → number ≡ suc place → slice_get words place ≡ Some busy
      → AreBusy chosen program words point from number → IsFirst words from place busy
  first_known words from _ place busy is there (ended _ none) = absurd (cc is)
  first_known words from _ place busy is there (linked _ at one here lower above within asked gap answers rest) =
      let same_place : at ≡ place = omega (arith, is) in
      let both : Some one ≡ Some busy = sym here ∙ ap (slice_get words) same_place ∙ there in
      let same : one ≡ busy = cc both in
      subst (λ (p : ℕ). IsFirst words from p busy) same_place
      (subst (λ (b : BusyWord). IsFirst words from at b) same
      (record { lower = lower; above = above; within = within; asked = asked; gap = gap; answers = answers; rest = rest }))

  -- behind a list's end there is none
  pub ended_known : (words : List BusyWord) (from number : ℕ) → ((place : ℕ) → number ≡ suc place → length words ≤ place)
      → AreBusy chosen program words point from number
      → (bit : ℕ) → 64 * from ≤ bit → ¬ (IsBusy chosen program point bit)
  ended_known words from _ past (ended _ none) = none
  ended_known words from _ past (linked _ place busy there lower above within asked gap answers rest) =
      let inside = slice_get_within words place busy there in
      let outside = past place refl in
      absurd (omega (arith, inside, outside))
