-- Sets whose words stand in a table of words.
use Rattle.std.proofs.Common.{◌≡◌, ◌↔◌, ℕ, ◌+◌, ◌*◌, ◌/◌, ◌%◌, ◌<◌, ◌≤◌, Bool, true, false, List, length, inl, inr, sym, ap, ap₂, ◌∙◌, arith}
use Rattle.std.specs.Int.{bit_at}
use Rattle.std.proofs.lemmas.Bool.{both_ways, cases_lt}
use Rattle.std.proofs.lemmas.List.{get_or_past}
use Rattle.std.proofs.lemmas.List.FromFn.{get_or-map-range_with_len, length-map-range_with_len}
use Rattle.bit_rows.specs.RowSet.{RowSet, IsWordOf, contains, empty_set}
use Rattle.bit_rows.specs.RowTable.{RowTable, set_at, blank_table}
use Rattle.bit_rows.specs.Words.{has_bit}
use Rattle.bit_rows.proofs.sets.RowSets.{contains-set_of, contains-above, hi_of-set_of}
use Rattle.bit_rows.proofs.sets.SetLaws.{contains-empty_set}
use Rattle.bit_rows.proofs.words.WordBits.{has_bit-zero}
use Rattle.slice_board.specs.Boards.{words_for}
use Rattle.slice_board.specs.code.Closing.{RowsLieWithin, ArePutIn}
use Rattle.slice_board.specs.code.Worded.{ArePosted, word_of, worded_set, worded_table}
use Rattle.slice_board.proofs.words.Calls.{one_of_bit, bit_of_one}
use Rattle.slice_board.proofs.rows.Putting.{blank_empty}

module _ (bits : ℕ) (words : ℕ → ℕ) where
  abbrev has : ℕ → Bool
  has b = has_bit (words (b / 64)) (b % 64)

  worded_past : (bit : ℕ) → bits ≤ bit → contains (worded_set bits words) bit ≡ false
  worded_past bit past = contains-above (worded_set bits words) bit (omega (arith, past, hi_of-set_of 0 bits has (omega arith)))

  -- each word is there,
  word_is : (word : ℕ) → ((k : ℕ) → k < 64 → bits ≤ 64 * word + k → has_bit (words word) k ≡ false)
      → IsWordOf (worded_set bits words) word (words word)
  word_is word clear i within = elim (cases_lt (64 * word + i) bits) [
    | inl inside ↦
        let which : (64 * word + i) / 64 ≡ word = omega (arith, within) in
        let place : (64 * word + i) % 64 ≡ i = omega (arith, within) in
        sym (contains-set_of 0 bits has (64 * word + i) (omega arith) inside ∙ ap₂ (λ w k. has_bit (words w) k) which place)
    | inr past ↦ clear i within past ∙ sym (worded_past (64 * word + i) past)
  ]

  -- and all others are empty
  no_word_is : (word : ℕ) → words_for bits ≤ word → IsWordOf (worded_set bits words) word 0
  no_word_is word past i within = has_bit-zero i ∙ sym (worded_past (64 * word + i) (omega (arith, past)))

module _ (bits : ℕ) (flags : List Bool) (words : ℕ → ℕ → ℕ) where
  abbrev pub rows : RowTable
  rows = worded_table bits flags words

  set_at-worded : (point : ℕ) → point < length flags → set_at rows point ≡ worded_set bits (words point)
  set_at-worded point there =
      get_or-map-range_with_len (λ p. worded_set bits (words p)) 0 (length flags) point point (empty_set 0 bits) there (omega arith)

  pub bit_there : (point bit : ℕ) → point < length flags → bit < bits → contains (set_at rows point) bit ≡ has_bit (words point (bit / 64)) (bit % 64)
  bit_there point bit there below =
      ap (λ (s : RowSet). contains s bit) (set_at-worded point there) ∙ contains-set_of 0 bits (has bits (words point)) bit (omega arith) below

  -- a set has no bit past the last, and none is there past the last point
  pub bit_within : (point bit : ℕ) → contains (set_at rows point) bit ≡ true → (point < length flags) × (bit < bits)
  bit_within point bit set = elim (cases_lt point (length flags)) [
    | inl there ↦ elim (cases_lt bit bits) [
      | inl below ↦ (there, below)
      | inr past ↦ absurd (both_ways (contains (set_at rows point) bit) (ap (λ (s : RowSet). contains s bit) (set_at-worded point there)
          ∙ worded_past bits (words point) bit past) set)
    ]
    | inr gone ↦
        let size : length rows.sets ≡ length flags = length-map-range_with_len (λ p. worded_set bits (words p)) 0 (length flags) in
        absurd (both_ways (contains (set_at rows point) bit)
        (ap (λ (s : RowSet). contains s bit) (get_or_past rows.sets point (empty_set 0 bits) (omega (arith, gone, size)))
        ∙ contains-empty_set 0 bits bit) set)
  ]

  pub word_there : (point word : ℕ) → point < length flags → ((k : ℕ) → k < 64 → bits ≤ 64 * word + k → has_bit (words point word) k ≡ false)
      → IsWordOf (set_at rows point) word (words point word)
  word_there point word there clear i within =
      word_is bits (words point) word clear i within ∙ ap (λ (s : RowSet). contains s (64 * word + i)) (sym (set_at-worded point there))

  pub no_word_there : (point word : ℕ) → point < length flags → words_for bits ≤ word → IsWordOf (set_at rows point) word 0
  no_word_there point word there past i within =
      no_word_is bits (words point) word past i within ∙ ap (λ (s : RowSet). contains s (64 * word + i)) (sym (set_at-worded point there))

-- ---- rows into which posted words are put
module _ (words : List ℕ) (count first bits : ℕ) (flags : List Bool) (posted : ArePosted words count first (length flags) bits) (old : RowTable)
    (blank : old ≡ blank_table flags 0 bits) where
  abbrev pub at : ℕ → ℕ → ℕ
  at = word_of words first (length flags)

  hi_is : old.hi ≡ bits
  hi_is = ap (λ (r : RowTable). r.hi) blank

  points_is : length old.flags ≡ length flags
  points_is = ap (λ (r : RowTable). length r.flags) blank

  pub still_blank : old ≡ blank_table old.flags 0 old.hi
  still_blank = blank ∙ (λ i. let r : RowTable = sym blank i in blank_table r.flags 0 r.hi)

  pub lie_within : RowsLieWithin old words first
  lie_within point there bit within one = elim (cases_lt bit bits) [
    | inl below ↦ omega (arith, below, hi_is)
    | inr past ↦
        let word = bit / 64 in
        let set : has_bit (at point word) (bit % 64) ≡ true =
        bit_of_one (at point word) (bit % 64) ((λ i. bit_at (word_of words first (sym points_is i) point word) (bit % 64)) ∙ one) in
        absurd (both_ways (has_bit (at point word) (bit % 64))
        (posted.clear point word (bit % 64) (omega (arith, there, points_is)) (omega (arith, within, hi_is)) (omega arith) (omega (arith, past))) set)
  ]

  -- have exactly the same bits
  pub same_bits : (new : RowTable) → ArePutIn words first (length old.flags) old new
      → (point bit : ℕ) → (contains (set_at new point) bit ≡ true) ↔ (contains (set_at (worded_table bits flags at) point) bit ≡ true)
  same_bits new put point bit = (
    (λ set. elim (cases_lt point (length flags)) [
      | inl there ↦ elim (cases_lt bit bits) [
        | inl below ↦
            let one = (put.bits point bit (omega (arith, there, points_is)) (omega (arith, below, hi_is))).0 set in
            bit_there bits flags at point bit there below
            ∙ bit_of_one (at point (bit / 64)) (bit % 64) ((λ i. bit_at (word_of words first (sym points_is i) point (bit / 64)) (bit % 64)) ∙ one)
        | inr past ↦
            let high = (put.uniform.ranges point).hi in
            absurd
            (both_ways (contains (set_at new point) bit) (contains-above (set_at new point) bit (omega (arith, high, put.hi, hi_is, past))) set)
      ]
      | inr gone ↦
          absurd (both_ways (contains (set_at new point) bit)
          (ap (λ (s : RowSet). contains s bit) (put.left point (omega (arith, gone, points_is))) ∙ blank_empty words first old still_blank point bit)
          set)
    ]),
    (λ set.
        let inside = bit_within bits flags at point bit set in
        let one = one_of_bit (at point (bit / 64)) (bit % 64) (sym (bit_there bits flags at point bit inside.0 inside.1) ∙ set) in
        (put.bits point bit (omega (arith, inside.0, points_is)) (omega (arith, inside.1, hi_is))).1
        ((λ i. bit_at (word_of words first (points_is i) point (bit / 64)) (bit % 64)) ∙ one)),
  )
