-- Loops that change a list of words in place, from the front on.
use Rattle.std.proofs.Common.{◌≡◌, ℕ, ◌+◌, ◌-◌, ◌^◌, ◌<◌, ◌≤◌, max, min, leb, Bool, false, not, ◌&&◌, ◌||◌, List, length, get_or, set, map}
use Rattle.std.proofs.Common.{refl, sym, ap, ap₂, ◌∙◌, inl, inr, arith, bit_and, bit_or, w64}
use Rattle.std.specs.Int.{bit_not}
use lib.Lanes.{chunk, put_chunk, zip2}
use Rattle.std.proofs.lemmas.Simd.{length-chunk, get_or-chunk, get_or-put_chunk_below, get_or-put_chunk_at, get_or-put_chunk_above, get_or-zip2}
use Rattle.std.proofs.lemmas.Simd.{length-zip2}
use Rattle.std.proofs.lemmas.Nat.{and_le_l, or_lt}
use Rattle.std.proofs.lemmas.List.{get_or-set_same, get_or-set_other, get_or-map, length-map, get_or_past}
use Rattle.std.proofs.lemmas.Bool.{cases_eq, cases_lt, and_left, and_right, lt-leb, le-leb}
use Rattle.std.proofs.Math.Bool.{or-false}
use Rattle.bit_rows.specs.Words.{has_bit, masks_have, AddsPlaces}
use Rattle.bit_rows.proofs.words.WordBits.{has_bit-zero, has_bit-and, has_bit-or, has_bit-not}

-- each place of the words below number at is f of what stood there and of the source's place, the
-- other words are as they were, and each is a word
pub record IsDoneTo (f : Bool → Bool → Bool) (old source : List ℕ) (at : ℕ) (now : List ℕ) : Type 0 where
  pub done : (k i : ℕ) → k < at → i < 64 → has_bit (get_or now k 0) i ≡ f (has_bit (get_or old k 0) i) (has_bit (get_or source k 0) i)
  pub left : (k : ℕ) → at ≤ k → get_or now k 0 ≡ get_or old k 0
  pub fits : (k : ℕ) → get_or now k 0 < 2 ^ 64

pub IsDoneTo-none : (f : Bool → Bool → Bool) (old source : List ℕ) → ((k : ℕ) → get_or old k 0 < 2 ^ 64) → IsDoneTo f old source 0 old
IsDoneTo-none f old source fits = record { done = λ k i below. absurd (omega arith); left = λ k above. refl; fits = fits }

-- op makes of two words the word whose places are f of theirs
pub record ActsAs (op : ℕ → ℕ → ℕ) (f : Bool → Bool → Bool) : Type 0 where
  pub fits : (x y : ℕ) → x < 2 ^ 64 → y < 2 ^ 64 → op x y < 2 ^ 64
  pub places : (x y i : ℕ) → x < 2 ^ 64 → y < 2 ^ 64 → i < 64 → has_bit (op x y) i ≡ f (has_bit x i) (has_bit y i)

pub or_acts : ActsAs bit_or ◌||◌
or_acts = record { fits = λ x y p q. or_lt 64 x y p q; places = λ x y i p q within. has_bit-or x y i }

pub and_acts : ActsAs bit_and ◌&&◌
and_acts = record { fits = λ x y p q. omega (arith, and_le_l x y); places = λ x y i p q within. has_bit-and x y i }

pub minus_acts : ActsAs (λ x y. bit_and x (bit_not w64 y)) (λ ours theirs. ours && not theirs)
minus_acts = record {
  fits = λ x y p q. omega (arith, and_le_l x (bit_not w64 y));
  places = λ x y i p q within. has_bit-and x (bit_not w64 y) i ∙ ap (λ bit. has_bit x i && bit) (has_bit-not y i q within);
}

pub flip_acts : ActsAs (λ x _. bit_not w64 x) (λ bit _. not bit)
flip_acts = record { fits = λ x y p q. omega arith; places = λ x y i p q within. has_bit-not x i p within }

module _ {op : ℕ → ℕ → ℕ} {f : Bool → Bool → Bool} (acts : ActsAs op f) {old source : List ℕ} {at : ℕ} {now : List ℕ}
    (so_far : IsDoneTo f old source at now) (source_fits : (k : ℕ) → get_or source k 0 < 2 ^ 64) where
  -- word k made of what stands there now, which is what stood there, has the places of f
  made_at : (word k i : ℕ) → at ≤ k → i < 64 → word ≡ op (get_or now k 0) (get_or source k 0)
      → has_bit word i ≡ f (has_bit (get_or old k 0) i) (has_bit (get_or source k 0) i)
  made_at word k i above within made =
      ap (λ w. has_bit w i) made
      ∙ acts.places (get_or now k 0) (get_or source k 0) i (so_far.fits k) (source_fits k) within
      ∙ ap (λ w. f (has_bit w i) (has_bit (get_or source k 0) i)) (so_far.left k above)

  fits_at : (word k : ℕ) → word ≡ op (get_or now k 0) (get_or source k 0) → word < 2 ^ 64
  fits_at word k made = omega (arith, made, acts.fits (get_or now k 0) (get_or source k 0) (so_far.fits k) (source_fits k))

  -- one more word
  pub IsDoneTo-more : (word : ℕ) → at < length now → word ≡ op (get_or now at 0) (get_or source at 0)
      → IsDoneTo f old source (at + 1) (set now at word)
  IsDoneTo-more word present made = record {
    done = λ k i below within. elim (cases_eq k at) [
      | inl here ↦
          ap (λ j. has_bit (get_or (set now at word) j 0) i) here
          ∙ ap (λ w. has_bit w i) (get_or-set_same now at word 0 present)
          ∙ made_at word at i (omega arith) within made
          ∙ ap (λ j. f (has_bit (get_or old j 0) i) (has_bit (get_or source j 0) i)) (sym here)
      | inr other ↦ ap (λ w. has_bit w i) (get_or-set_other now at k word 0 other) ∙ so_far.done k i (omega arith) within
    ];
    left = λ k above. get_or-set_other now at k word 0 (omega arith) ∙ so_far.left k (omega arith);
    fits = λ k. elim (cases_eq k at) [
      | inl here ↦ omega (arith, ap (λ j. get_or (set now at word) j 0) here, get_or-set_same now at word 0 present, fits_at word at made)
      | inr other ↦ omega (arith, get_or-set_other now at k word 0 other, so_far.fits k)
    ];
  }

  -- eight more words
  module _ (lanes : List ℕ) (room : at + 8 ≤ length now) (eight : length lanes ≡ 8)
      (made : (j : ℕ) → j < 8 → get_or lanes j 0 ≡ op (get_or now (at + j) 0) (get_or source (at + j) 0)) where
    at_lane : (k : ℕ) → at ≤ k → k < at + 8 → get_or (put_chunk at now lanes) k 0 ≡ op (get_or now k 0) (get_or source k 0)
    at_lane k above below =
        let there : k ≡ at + (k - at) = omega arith in
        ap (λ n. get_or (put_chunk at now lanes) n 0) there
        ∙ get_or-put_chunk_at at now lanes (k - at) 0 (omega (arith, eight, below, above)) (omega (arith, eight, room))
        ∙ made (k - at) (omega arith)
        ∙ ap (λ n. op (get_or now n 0) (get_or source n 0)) (sym there)

    past_lanes : (k : ℕ) → at + 8 ≤ k → get_or (put_chunk at now lanes) k 0 ≡ get_or now k 0
    past_lanes k above = get_or-put_chunk_above at now lanes k 0 (omega (arith, eight, above))

    pub IsDoneTo-lanes : IsDoneTo f old source (at + 8) (put_chunk at now lanes)
    IsDoneTo-lanes = record {
      done = λ k i below within. elim (cases_lt k at) [
        | inl before ↦ ap (λ w. has_bit w i) (get_or-put_chunk_below at now lanes k 0 before) ∙ so_far.done k i before within
        | inr above ↦ made_at (get_or (put_chunk at now lanes) k 0) k i above within (at_lane k above below)
      ];
      left = λ k above. past_lanes k above ∙ so_far.left k (omega arith);
      fits = λ k. elim (cases_lt k at) [
        | inl before ↦ omega (arith, get_or-put_chunk_below at now lanes k 0 before, so_far.fits k)
        | inr above ↦ elim (cases_lt k (at + 8)) [
          | inl below ↦ fits_at (get_or (put_chunk at now lanes) k 0) k (at_lane k above below)
          | inr past ↦ omega (arith, past_lanes k past, so_far.fits k)
        ]
      ];
    }

-- the lanes of an operator on two loads
pub zip_lane : (op : ℕ → ℕ → ℕ) (xs ys : List ℕ) (at : ℕ) → at + 8 ≤ length xs → at + 8 ≤ length ys → (j : ℕ) → j < 8
    → get_or (zip2 op (chunk at 8 xs) (chunk at 8 ys)) j 0 ≡ op (get_or xs (at + j) 0) (get_or ys (at + j) 0)
zip_lane op xs ys at room_x room_y j within =
    get_or-zip2 op (chunk at 8 xs) (chunk at 8 ys) j 0 0 0 (omega (arith, length-chunk at 8 xs room_x)) (omega (arith, length-chunk at 8 ys room_y))
    ∙ ap₂ op (get_or-chunk at 8 xs j 0 within) (get_or-chunk at 8 ys j 0 within)

pub length_zip_lanes : (op : ℕ → ℕ → ℕ) (xs ys : List ℕ) (at : ℕ) → at + 8 ≤ length xs → at + 8 ≤ length ys
    → length (zip2 op (chunk at 8 xs) (chunk at 8 ys)) ≡ 8
length_zip_lanes op xs ys at room_x room_y =
    length-zip2 op (chunk at 8 xs) (chunk at 8 ys) (length-chunk at 8 xs room_x ∙ sym (length-chunk at 8 ys room_y)) ∙ length-chunk at 8 xs room_x

-- the lanes of an operator on one load
pub map_lane : (op : ℕ → ℕ) (xs : List ℕ) (at : ℕ) → at + 8 ≤ length xs → (j : ℕ) → j < 8
    → get_or (map op (chunk at 8 xs)) j 0 ≡ op (get_or xs (at + j) 0)
map_lane op xs at room j within =
    get_or-map op (chunk at 8 xs) j 0 0 (omega (arith, length-chunk at 8 xs room)) ∙ ap op (get_or-chunk at 8 xs j 0 within)

pub length_map_lanes : (op : ℕ → ℕ) (xs : List ℕ) (at : ℕ) → at + 8 ≤ length xs → length (map op (chunk at 8 xs)) ≡ 8
length_map_lanes op xs at room = length-map (chunk at 8 xs) op ∙ length-chunk at 8 xs room

-- ---- masks put in, from the universe's word w on still to do
pub record IsAddedTo (base : ℕ) (old : List ℕ) (first : ℕ) (masks : List ℕ) (w : ℕ) (now : List ℕ) : Type 0 where
  pub done : (k i : ℕ) → base + k < w → i < 64 → has_bit (get_or now k 0) i ≡ (has_bit (get_or old k 0) i || masks_have masks first (base + k) i)
  pub left : (k : ℕ) → w ≤ base + k → get_or now k 0 ≡ get_or old k 0

masks_have-before : (masks : List ℕ) (first w i : ℕ) → w < first → masks_have masks first w i ≡ false
unfolding masks_have
masks_have-before masks first w i before = and_left (leb first w) (has_bit (get_or masks (w - first) 0) i) (lt-leb first w before)

masks_have-past : (masks : List ℕ) (first w i : ℕ) → first + length masks ≤ w → masks_have masks first w i ≡ false
unfolding masks_have
masks_have-past masks first w i past = and_right (leb first w) (has_bit (get_or masks (w - first) 0) i)
    (ap (λ v. has_bit v i) (get_or_past masks (w - first) 0 (omega arith)) ∙ has_bit-zero i)

masks_have-at : (masks : List ℕ) (first w i : ℕ) → first ≤ w → has_bit (get_or masks (w - first) 0) i ≡ masks_have masks first w i
unfolding masks_have
masks_have-at masks first w i from = ap (λ t. t && has_bit (get_or masks (w - first) 0) i) (sym (le-leb first w from))

module _ (base : ℕ) (old : List ℕ) (first : ℕ) (masks : List ℕ) where
  pub IsAddedTo-none : (w : ℕ) → w ≡ max first base → IsAddedTo base old first masks w old
  IsAddedTo-none w start = record {
    done = λ k i below within.
        sym (or-false (has_bit (get_or old k 0) i))
        ∙ ap (λ t. has_bit (get_or old k 0) i || t) (sym (masks_have-before masks first (base + k) i (omega arith)));
    left = λ k above. refl;
  }

  pub IsAddedTo-more : (w word : ℕ) (now : List ℕ) → IsAddedTo base old first masks w now → base ≤ w → first ≤ w → w - base < length now
      → word ≡ bit_or (get_or now (w - base) 0) (get_or masks (w - first) 0) → IsAddedTo base old first masks (w + 1) (set now (w - base) word)
  IsAddedTo-more w word now so_far from_base from_first present made = record {
    done = λ k i below within. elim (cases_eq k (w - base)) [
      | inl here ↦
          let at : w ≡ base + k = omega arith in
          ap (λ j. has_bit (get_or (set now (w - base) word) j 0) i) here
          ∙ ap (λ v. has_bit v i) (get_or-set_same now (w - base) word 0 present ∙ made)
          ∙ has_bit-or (get_or now (w - base) 0) (get_or masks (w - first) 0) i
          ∙ ap₂ (λ (j : ℕ) (v : Bool). has_bit (get_or now j 0) i || v) (sym here) (masks_have-at masks first w i from_first)
          ∙ ap₂ (λ (v v2 : ℕ). has_bit v i || masks_have masks first v2 i) (so_far.left k (omega arith)) at
      | inr other ↦ ap (λ v. has_bit v i) (get_or-set_other now (w - base) k word 0 other) ∙ so_far.done k i (omega arith) within
    ];
    left = λ k above. get_or-set_other now (w - base) k word 0 (omega arith) ∙ so_far.left k (omega arith);
  }

  pub IsAddedTo-all : (w : ℕ) (now : List ℕ) → IsAddedTo base old first masks w now → length now ≡ length old → max first base ≤ w
      → min (first + length masks) (base + length old) ≤ w → AddsPlaces base old first masks now
  IsAddedTo-all w now so_far count from all = λ k i present within. elim (cases_lt (base + k) w) [
    | inl below ↦ so_far.done k i below within
    | inr above ↦
        ap (λ v. has_bit v i) (so_far.left k above)
        ∙ sym (or-false (has_bit (get_or old k 0) i))
        ∙ ap (λ t. has_bit (get_or old k 0) i || t) (sym (masks_have-past masks first (base + k) i (omega arith)))
  ]
