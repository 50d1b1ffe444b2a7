-- One bit of the words of a set of points
use Rattle.std.proofs.Common.{◌≡◌, ◌≢◌, ◌<◌, ◌≤◌, ◌+◌, ◌-◌, ◌*◌, ◌/◌, ◌%◌, ◌^◌, inl, inr, length, get_or, set, replicate, true, false, Bool, ℕ}
use Rattle.std.proofs.Common.{List, arith, sym, ◌∙◌, subst, ap, nat_eq, eq-eqb}
use Rattle.std.proofs.lemmas.Bool.{cases_eq, cases_lt, and_parts}
use Rattle.std.proofs.lemmas.Nat.{and_le_l}
use Rattle.std.proofs.lemmas.List.{length-replicate, get_or-replicate, get_or_past, get_or_default, get_or-set_same, get_or-set_other, get_or-map}
use Rattle.std.proofs.lemmas.List.{length-map, ext_get_or}
use Rattle.std.proofs.Math.ListN.{length-set}
use Rattle.std.proofs.lemmas.Nat.Bits.{shr_and_one, bit_at_set_same, bit_at_set_other, bit_at_clear_same, bit_at_clear_other, bit_at-trailing_zeros}
use Rattle.std.proofs.lemmas.Nat.Bits.{bit_at_ones, bit_at_ones_above}
use Rattle.std.specs.Int.{bit_not, w64, trailing_zeros}
use Rattle.std.specs.Int.RustNames.{bit_or}
use lib.Bits.{bit_and}
use Rattle.bit_rows.specs.Words.{has_bit}
use Rattle.bit_rows.proofs.words.WordBits.{has_bit-and, has_bit-zero, has_bit-max}
use Rattle.worklist.specs.Worklist.{IsMarked, AreClear}
use Rattle.worklist.specs.Orders.{IsOrder}
use Rattle.worklist.specs.Tables.MarkWords.{is_marked_in, marks_of, AreMarkWords, AreFull}

pub length-marks_of : (words ranks : List ℕ) → length (marks_of words ranks) ≡ length ranks
unfolding marks_of
length-marks_of words ranks = length-map ranks (is_marked_in words)

pub mark_at : (words ranks : List ℕ) (x : ℕ) → x < length ranks → get_or (marks_of words ranks) x false ≡ is_marked_in words (get_or ranks x 0)
unfolding marks_of
mark_at words ranks x within = get_or-map (is_marked_in words) ranks x 0 false within

-- sets with the same marks are one
pub same_marks : (words ranks : List ℕ) (worklist : List Bool) → length worklist ≡ length ranks
    → ((x : ℕ) → x < length ranks → get_or worklist x false ≡ is_marked_in words (get_or ranks x 0))
    → marks_of words ranks ≡ worklist
same_marks words ranks worklist same each =
    ext_get_or false (marks_of words ranks) worklist (length-marks_of words ranks ∙ sym same)
    (λ x within. let low : x < length ranks = subst (λ n. x < n) (length-marks_of words ranks) within in mark_at words ranks x low ∙ sym (each x low))

module _ (words : List ℕ) (r word : ℕ) (within : r / 64 < length words) where
  pub bit-same : is_marked_in (set words (r / 64) word) r ≡ has_bit word (r % 64)
  unfolding is_marked_in
  bit-same = ap (λ w. has_bit w (r % 64)) (get_or-set_same words (r / 64) word 0 within)

  pub bit-other : ((i : ℕ) → i < 64 → i ≢ r % 64 → has_bit word i ≡ has_bit (get_or words (r / 64) 0) i) → (y : ℕ) → y ≢ r
      → is_marked_in (set words (r / 64) word) y ≡ is_marked_in words y
  unfolding is_marked_in
  bit-other others y other = elim (cases_eq (y / 64) (r / 64)) [
    | inl same ↦
        let place : y % 64 ≢ r % 64 = λ e. other (omega arith) in
        let low : y % 64 < 64 = omega arith in
        ap (λ n. has_bit (get_or (set words (r / 64) word) n 0) (y % 64)) same
        ∙ (ap (λ w. has_bit w (y % 64)) (get_or-set_same words (r / 64) word 0 within)
        ∙ (others (y % 64) low place ∙ ap (λ n. has_bit (get_or words n 0) (y % 64)) (sym same)))
    | inr apart ↦ ap (λ w. has_bit w (y % 64)) (get_or-set_other words (r / 64) (y / 64) word 0 apart)
  ]

-- a write of one bit is a write of one mark
module _ (words ranks : List ℕ) (x r word : ℕ) (bit : Bool) (are : AreMarkWords (length ranks) words) (order : IsOrder ranks) (low : x < length ranks)
    (rank : get_or ranks x 0 ≡ r) (here : has_bit word (r % 64) ≡ bit)
    (others : (i : ℕ) → i < 64 → i ≢ r % 64 → has_bit word i ≡ has_bit (get_or words (r / 64) 0) i) where
  rank_low : r < length ranks
  rank_low = subst (λ n. n < length ranks) rank (order.in_range x low)

  in_room : r / 64 < length words
  in_room = let room = are.room in let r_low = rank_low in omega arith

  pub worklist-write : marks_of (set words (r / 64) word) ranks ≡ set (marks_of words ranks) x bit
  worklist-write = same_marks (set words (r / 64) word) ranks (set (marks_of words ranks) x bit)
      (length-set (marks_of words ranks) x bit ∙ length-marks_of words ranks) each
    where
      each : (k : ℕ) → k < length ranks
          → get_or (set (marks_of words ranks) x bit) k false ≡ is_marked_in (set words (r / 64) word) (get_or ranks k 0)
      each k within = elim (cases_eq k x) [
        | inl same ↦
            let inside : x < length (marks_of words ranks) = subst (λ n. x < n) (sym (length-marks_of words ranks)) low in
            ap (λ n. get_or (set (marks_of words ranks) x bit) n false) same
            ∙ (get_or-set_same (marks_of words ranks) x bit false inside
            ∙ (sym here ∙ (sym (bit-same words r word in_room)
            ∙ ap (is_marked_in (set words (r / 64) word)) (sym rank ∙ ap (λ n. get_or ranks n 0) (sym same)))))
        | inr apart ↦
            let other : get_or ranks k 0 ≢ r = λ e. apart (order.apart k x within low (e ∙ sym rank)) in
            get_or-set_other (marks_of words ranks) x k bit false apart
            ∙ (mark_at words ranks k within ∙ sym (bit-other words r word in_room others (get_or ranks k 0) other))
      ]

  pub words-write : AreMarkWords (length ranks) (set words (r / 64) word)
  words-write = record {
    few = are.few;
    room = let room = are.room in let same = length-set words (r / 64) word in omega arith;
    full = let full = are.full in let same = length-set words (r / 64) word in omega arith;
    above = λ y high. let r_low = rank_low in let apart : y ≢ r = omega arith in bit-other words r word in_room others y apart ∙ are.above y high;
  }

-- a marked bit is of a rank
pub marked-low : (words : List ℕ) (bits r : ℕ) → AreMarkWords bits words → is_marked_in words r ≡ true → r < bits
marked-low words bits r are marked = elim (cases_lt r bits) [
  | inl low ↦ low
  | inr high ↦ let clear : is_marked_in words r ≡ false = are.above r high in absurd (cc)
]

-- words of zeros hold no mark
pub clear_words : (words : List ℕ) → ((k : ℕ) → k < length words → get_or words k 0 ≡ 0) → (r : ℕ) → is_marked_in words r ≡ false
unfolding is_marked_in
clear_words words zero r = elim (cases_lt (r / 64) (length words)) [
  | inl low ↦ ap (λ w. has_bit w (r % 64)) (zero (r / 64) low) ∙ has_bit-zero (r % 64)
  | inr high ↦ ap (λ w. has_bit w (r % 64)) (get_or_past words (r / 64) 0 high) ∙ has_bit-zero (r % 64)
]

pub clear_marks : (words ranks : List ℕ) → ((k : ℕ) → k < length words → get_or words k 0 ≡ 0) → AreClear (marks_of words ranks)
clear_marks words ranks zero x = elim (cases_lt x (length ranks)) [
  | inl low ↦ mark_at words ranks x low ∙ clear_words words zero (get_or ranks x 0)
  | inr high ↦ let long : length (marks_of words ranks) ≤ x = subst (λ n. n ≤ x) (sym (length-marks_of words ranks)) high in
      get_or_past (marks_of words ranks) x false long
]

-- the word with one more bit, and with one fewer
pub set_same : (word k : ℕ) → k < 64 → has_bit (bit_or word (1 * 2 ^ k % 2 ^ 64)) k ≡ true
unfolding has_bit
set_same word k low = eq-eqb _ _ (bit_at_set_same w64 word k low)

set_other : (word k : ℕ) → k < 64 → (i : ℕ) → i < 64 → i ≢ k → has_bit (bit_or word (1 * 2 ^ k % 2 ^ 64)) i ≡ has_bit word i
unfolding has_bit
set_other word k low i _ other = ap (λ b. nat_eq b 1) (bit_at_set_other w64 word k low i other)

clear_same : (word k : ℕ) → k < 64 → has_bit (bit_and word (bit_not w64 (1 * 2 ^ k % 2 ^ 64))) k ≡ false
unfolding has_bit
clear_same word k low = ap (λ b. nat_eq b 1) (bit_at_clear_same w64 word k low)

clear_other : (word k : ℕ) → k < 64 → (i : ℕ) → i < 64 → i ≢ k → has_bit (bit_and word (bit_not w64 (1 * 2 ^ k % 2 ^ 64))) i ≡ has_bit word i
unfolding has_bit
clear_other word k low i below other = ap (λ b. nat_eq b 1) (bit_at_clear_other w64 word k low i below other)

lowest : (word : ℕ) → 0 < word → word < 2 ^ 64 → (trailing_zeros w64 word < 64) × (has_bit word (trailing_zeros w64 word) ≡ true)
unfolding has_bit
lowest word some fits = let h = bit_at-trailing_zeros w64 word some fits in (h.0, eq-eqb _ _ h.1)

-- a point of the view is one of the order
pub low_of : (words ranks : List ℕ) (x : ℕ) (view : List Bool) → marks_of words ranks ≡ view → x < length view → x < length ranks
low_of words ranks x view is within = let same : length view ≡ length ranks = ap length (sym is) ∙ length-marks_of words ranks in omega arith

pub word_of : (words : List ℕ) (bits r : ℕ) → AreMarkWords bits words → r < bits → r / 64 < length words
word_of words bits r are low = let room = are.room in omega arith

-- what a write of the words does to the set
pub record Writes (words ranks : List ℕ) (x : ℕ) (bit : Bool) (after : List ℕ) : Type 0 where
  pub worklist : marks_of after ranks ≡ set (marks_of words ranks) x bit
  pub holds : AreMarkWords (length ranks) after

pub puts : (words ranks : List ℕ) (x r read : ℕ) → AreMarkWords (length ranks) words → IsOrder ranks → x < length ranks → r ≡ get_or ranks x 0
    → read ≡ get_or words (r / 64) read
    → Writes words ranks x true (set words (r / 64) (bit_or read (1 * 2 ^ (r % 64) % 2 ^ 64)))
puts words ranks x r read are order low rank is =
    let small : r % 64 < 64 = omega arith in
    let rank_low : r < length ranks = subst (λ n. n < length ranks) (sym rank) (order.in_range x low) in
    let read_is : read ≡ get_or words (r / 64) 0 = is ∙ get_or_default words (r / 64) read 0 (word_of words (length ranks) r are rank_low) in
    let word : ℕ = bit_or read (1 * 2 ^ (r % 64) % 2 ^ 64) in
    let here : has_bit word (r % 64) ≡ true = set_same read (r % 64) small in
    let others : (i : ℕ) → i < 64 → i ≢ r % 64 → has_bit word i ≡ has_bit (get_or words (r / 64) 0) i =
    λ i below other. set_other read (r % 64) small i below other ∙ ap (λ w. has_bit w i) read_is in
    record {
      worklist = worklist-write words ranks x r word true are order low (sym rank) here others;
      holds = words-write words ranks x r word true are order low (sym rank) here others;
    }

-- a bit of a word, at its rank
marked_at : (words : List ℕ) (at k : ℕ) → k < 64 → has_bit (get_or words at 0) k ≡ true → is_marked_in words (64 * at + k) ≡ true
unfolding is_marked_in
marked_at words at k small has =
    let word_at : (64 * at + k) / 64 ≡ at = omega arith in
    let place : (64 * at + k) % 64 ≡ k = omega arith in
    ap (λ n. has_bit (get_or words n 0) ((64 * at + k) % 64)) word_at ∙ (ap (has_bit (get_or words at 0)) place ∙ has)

-- the lowest bit of a word that is not 0
pub lowest_marked : (words : List ℕ) (at : ℕ) → get_or words at 0 ≢ 0 → get_or words at 0 < 2 ^ 64
    → is_marked_in words (64 * at + trailing_zeros w64 (get_or words at 0)) ≡ true
lowest_marked words at some fits =
    let h = lowest (get_or words at 0) (omega arith) fits in
    marked_at words at (trailing_zeros w64 (get_or words at 0)) h.0 h.1

-- and the lowest of those within a mask
pub masked_marked : (words : List ℕ) (at mask : ℕ) → bit_and (get_or words at 0) mask ≢ 0 → get_or words at 0 < 2 ^ 64
    → is_marked_in words (64 * at + trailing_zeros w64 (bit_and (get_or words at 0) mask)) ≡ true
masked_marked words at mask some fits =
    let word : ℕ = bit_and (get_or words at 0) mask in
    let least = and_le_l (get_or words at 0) mask in
    let h = lowest word (omega arith) (omega (arith, least, fits)) in
    let has = (and_parts _ _ (sym (has_bit-and (get_or words at 0) mask (trailing_zeros w64 word)) ∙ h.1)).0 in
    marked_at words at (trailing_zeros w64 word) h.0 has

-- the bit of a point that is taken out
pub takes : (words ranks : List ℕ) (r read x : ℕ) → AreMarkWords (length ranks) words → IsOrder ranks → is_marked_in words r ≡ true
    → read ≡ get_or words (r / 64) read → x < length ranks → get_or ranks x 0 ≡ r
    → Writes words ranks x false (set words (r / 64) (bit_and read (bit_not w64 (1 * 2 ^ (r % 64) % 2 ^ 64)))) × IsMarked (marks_of words ranks) x
takes words ranks r read x are order marked is low rank =
    let small : r % 64 < 64 = omega arith in
    let rank_low : r < length ranks = marked-low words (length ranks) r are marked in
    let read_is : read ≡ get_or words (r / 64) 0 = is ∙ get_or_default words (r / 64) read 0 (word_of words (length ranks) r are rank_low) in
    let word : ℕ = bit_and read (bit_not w64 (1 * 2 ^ (r % 64) % 2 ^ 64)) in
    let here : has_bit word (r % 64) ≡ false = clear_same read (r % 64) small in
    let others : (i : ℕ) → i < 64 → i ≢ r % 64 → has_bit word i ≡ has_bit (get_or words (r / 64) 0) i =
    λ i below other. clear_other read (r % 64) small i below other ∙ ap (λ w. has_bit w i) read_is in (
      record {
        worklist = worklist-write words ranks x r word false are order low rank here others;
        holds = words-write words ranks x r word false are order low rank here others;
      },
      mark_at words ranks x low ∙ (ap (is_marked_in words) rank ∙ marked),
    )

-- words of zeros are a set of no points
pub blank : (words : List ℕ) (bits : ℕ) → bits ≤ 2 ^ 31 → bits ≤ 64 * length words → 64 * length words < bits + 64
    → ((k : ℕ) → k < length words → get_or words k 0 ≡ 0) → AreMarkWords bits words
blank words bits few room full zero = record { few = few; room = room; full = full; above = λ r high. clear_words words zero r }

pub blank_marks : (words ranks : List ℕ) → ((k : ℕ) → k < length words → get_or words k 0 ≡ 0) → marks_of words ranks ≡ replicate (length ranks) false
blank_marks words ranks zero =
    same_marks words ranks (replicate (length ranks) false) (length-replicate (length ranks) false)
    (λ x low. get_or-replicate (length ranks) x false false low ∙ sym (clear_words words zero (get_or ranks x 0)))

-- words of ones, of which the last has as many as there are bits
module _ (words : List ℕ) (bits : ℕ) (ones : (k : ℕ) → k < length words → get_or words k 0 ≡ 2 ^ 64 - 1) (room : bits ≤ 64 * length words)
    (full : 64 * length words < bits + 64) where
  one_below : (x : ℕ) → x / 64 < length words → is_marked_in words x ≡ true
  unfolding is_marked_in
  one_below x low = ap (λ w. has_bit w (x % 64)) (ones (x / 64) low) ∙ has_bit-max (x % 64) (omega arith)

  none_above : (x : ℕ) → length words ≤ x / 64 → is_marked_in words x ≡ false
  unfolding is_marked_in
  none_above x high = ap (λ w. has_bit w (x % 64)) (get_or_past words (x / 64) 0 high) ∙ has_bit-zero (x % 64)

  pub full_whole : bits % 64 ≡ 0 → AreFull bits words
  full_whole whole = ((λ x low. one_below x (omega arith)), (λ x high. none_above x (omega arith)))

  at_last : (x : ℕ) → bits / 64 < length words → x / 64 ≡ bits / 64
      → is_marked_in (set words (bits / 64) (2 ^ (bits % 64) - 1)) x ≡ has_bit (2 ^ (bits % 64) - 1) (x % 64)
  unfolding is_marked_in
  at_last x within same =
      ap (λ n. has_bit (get_or (set words (bits / 64) (2 ^ (bits % 64) - 1)) n 0) (x % 64)) same
      ∙ ap (λ w. has_bit w (x % 64)) (get_or-set_same words (bits / 64) (2 ^ (bits % 64) - 1) 0 within)

  elsewhere : (x : ℕ) → x / 64 ≢ bits / 64 → is_marked_in (set words (bits / 64) (2 ^ (bits % 64) - 1)) x ≡ is_marked_in words x
  unfolding is_marked_in
  elsewhere x apart = ap (λ w. has_bit w (x % 64)) (get_or-set_other words (bits / 64) (x / 64) (2 ^ (bits % 64) - 1) 0 apart)

  in_mask : (i : ℕ) → i < bits % 64 → has_bit (2 ^ (bits % 64) - 1) i ≡ true
  unfolding has_bit
  in_mask i low = eq-eqb _ _ (bit_at_ones (bits % 64) i low)

  past_mask : (i : ℕ) → bits % 64 ≤ i → has_bit (2 ^ (bits % 64) - 1) i ≡ false
  unfolding has_bit
  past_mask i high = ap (λ b. nat_eq b 1) (bit_at_ones_above (bits % 64) i high)

  pub full_part : bits % 64 ≢ 0 → AreFull bits (set words (bits / 64) (2 ^ (bits % 64) - 1))
  full_part part =
      let within : bits / 64 < length words = omega arith in (
        (λ x low. elim (cases_eq (x / 64) (bits / 64)) [
          | inl same ↦ at_last x within same ∙ in_mask (x % 64) (omega arith)
          | inr apart ↦ elsewhere x apart ∙ one_below x (omega arith)
        ]),
        (λ x high. elim (cases_eq (x / 64) (bits / 64)) [
          | inl same ↦ at_last x within same ∙ past_mask (x % 64) (omega arith)
          | inr apart ↦ elsewhere x apart ∙ none_above x (omega arith)
        ]),
      )

pub full_marks : (words ranks : List ℕ) → IsOrder ranks → AreFull (length ranks) words → marks_of words ranks ≡ replicate (length ranks) true
full_marks words ranks order full =
    same_marks words ranks (replicate (length ranks) true) (length-replicate (length ranks) true)
    (λ x low. get_or-replicate (length ranks) x true false low ∙ sym (full.0 (get_or ranks x 0) (order.in_range x low)))

-- the bit that is read from a word at a rank
pub word_has : (words : List ℕ) (r word : ℕ) → word ≡ get_or words (r / 64) 0 → nat_eq (bit_and (word / 2 ^ (r % 64)) 1) 1 ≡ is_marked_in words r
unfolding has_bit is_marked_in
word_has words r word is = ap (λ x. nat_eq x 1) (shr_and_one word (r % 64)) ∙ ap (λ w. has_bit w (r % 64)) is
