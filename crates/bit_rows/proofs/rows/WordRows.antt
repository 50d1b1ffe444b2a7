-- The words of a row, and the set that they hold.
use Rattle.std.proofs.Common.{◌≡◌, ◌≢◌, ℕ, ◌+◌, ◌-◌, ◌*◌, ◌/◌, ◌%◌, ◌^◌, ◌<◌, ◌≤◌, Bool, true, false, not, ◌&&◌, ◌||◌, List, length, get_or}
use Rattle.std.proofs.Common.{replicate, refl, sym, ap, ap₂, ◌∙◌, subst, inl, inr, arith, bit_or, set, drop, eqb, leb}
use Rattle.std.proofs.lemmas.List.{ext_get_or, get_or_past, get_or-replicate, length-replicate, length-set, get_or-set_same, get_or-set_other}
use Rattle.std.proofs.lemmas.List.{set-get_or, take_at}
use Rattle.std.proofs.lemmas.Bool.{cases_lt, cases_eq, cases_Bool, both_ways, and_left, and_right, or_from, lt-leb, eq-eqb, ne_eqb, eqb-true}
use Rattle.std.proofs.lemmas.Bool.{eqb-false}
use Rattle.std.specs.List.{refill}
use Rattle.std.specs.Bool.{MatchBool}
use Rattle.std.proofs.Math.Bool.{or-false}
use Rattle.bit_rows.specs.Words.{has_bit, masks_have, AddsPlaces, words_have, word_count, range_mask, MaskLiesWithin, AreRowWords, IsTrimmed}
use Rattle.bit_rows.specs.Words.{CombinesPlaces, MapsPlaces, SamePlaces}
use Rattle.bit_rows.specs.RowSet.{RowSet, HasRange, hi_of, contains, set_of, empty_set, with_bit, with_word, with_words, union, intersection}
use Rattle.bit_rows.specs.RowSet.{difference, complement}
use Rattle.bit_rows.proofs.words.WordBits.{has_bit-zero, has_bit-or, has_bit-mask_inside, has_bit-mask_below, has_bit-mask_above}
use Rattle.bit_rows.proofs.words.WordBits.{has_bit-shifted_same, has_bit-shifted_other, same_words}
use Rattle.bit_rows.proofs.sets.RowSets.{lo-set_of, hi_of-set_of, contains-set_of, contains-below, contains-above, same_set_of, set_of-contains}
use Rattle.bit_rows.proofs.rows.Trim.{keep}

-- words are those of the row lo..hi that holds the set s
pub record HoldSet (s : RowSet) (lo hi : ℕ) (words : List ℕ) : Type 0 where
  pub well_formed : AreRowWords lo hi words
  pub held : set_of lo hi (words_have words (lo / 64)) ≡ s

pub HoldSet-lo : {s : RowSet} {lo hi : ℕ} {words : List ℕ} → HoldSet s lo hi words → s.lo ≡ lo
HoldSet-lo {s} {lo} {hi} {words} h = ap (λ (t : RowSet). t.lo) (sym h.held) ∙ lo-set_of lo hi (words_have words (lo / 64))

pub HoldSet-hi : {s : RowSet} {lo hi : ℕ} {words : List ℕ} → HoldSet s lo hi words → hi_of s ≡ hi
HoldSet-hi {s} {lo} {hi} {words} h = ap hi_of (sym h.held) ∙ hi_of-set_of lo hi (words_have words (lo / 64)) h.well_formed.ordered

-- a place of a word is 1 where its bit of the universe is in the set
pub HoldSet-bit : {s : RowSet} {lo hi : ℕ} {words : List ℕ} → HoldSet s lo hi words → (k i : ℕ) → i < 64
    → has_bit (get_or words k 0) i ≡ contains s (64 * (lo / 64 + k) + i)
unfolding words_have
HoldSet-bit {s} {lo} {hi} {words} h k i within =
    elim (cases_lt (64 * (lo / 64 + k) + i) lo) [
      | inl below ↦ h.well_formed.clear_below k i within below
          ∙ sym (contains-below s (64 * (lo / 64 + k) + i) (omega (arith, below, HoldSet-lo h)))
      | inr low ↦ elim (cases_lt (64 * (lo / 64 + k) + i) hi) [
        | inl high ↦
            let at_word : (64 * (lo / 64 + k) + i) / 64 - lo / 64 ≡ k = omega arith in
            let at_place : (64 * (lo / 64 + k) + i) % 64 ≡ i = omega arith in
            ap₂ (λ (j p : ℕ). has_bit (get_or words j 0) p) (sym at_word) (sym at_place)
            ∙ sym (contains-set_of lo hi (words_have words (lo / 64)) (64 * (lo / 64 + k) + i) low high)
            ∙ ap (λ t. contains t (64 * (lo / 64 + k) + i)) h.held
        | inr above ↦ h.well_formed.clear_above k i within above
            ∙ sym (contains-above s (64 * (lo / 64 + k) + i) (omega (arith, above, HoldSet-hi h)))
      ]
    ]

-- words whose places are the values of a test that is false outside lo..hi hold that test's set
module _ (lo hi : ℕ) (words : List ℕ) (f : ℕ → Bool) (ordered : lo ≤ hi) (count : length words ≡ word_count lo hi)
    (places : (k i : ℕ) → k < length words → i < 64 → has_bit (get_or words k 0) i ≡ f (64 * (lo / 64 + k) + i))
    (below : (b : ℕ) → b < lo → f b ≡ false) (above : (b : ℕ) → hi ≤ b → f b ≡ false) where
  clear_at : (k i : ℕ) → i < 64 → f (64 * (lo / 64 + k) + i) ≡ false → has_bit (get_or words k 0) i ≡ false
  clear_at k i within outside =
      elim (cases_lt k (length words)) [
        | inl present ↦ places k i present within ∙ outside
        | inr past ↦ ap (λ word. has_bit word i) (get_or_past words k 0 past) ∙ has_bit-zero i
      ]

  HoldSet-from_places : HoldSet (set_of lo hi f) lo hi words
  unfolding words_have
  HoldSet-from_places = record {
    well_formed = record {
      ordered = ordered;
      count = count;
      clear_below = λ k i within outside. clear_at k i within (below (64 * (lo / 64 + k) + i) outside);
      clear_above = λ k i within outside. clear_at k i within (above (64 * (lo / 64 + k) + i) outside);
    };
    held = same_set_of lo hi (words_have words (lo / 64)) f (λ b low high.
        let back : 64 * (lo / 64 + (b / 64 - lo / 64)) + b % 64 ≡ b = omega arith in
        places (b / 64 - lo / 64) (b % 64) (omega (arith, count, low, high)) (omega arith) ∙ ap f back);
  }

-- the same, for a set that is the test's over its own range
pub HoldSet-made : (s : RowSet) (f : ℕ → Bool) (lo hi : ℕ) (words : List ℕ) → s.lo ≡ lo → hi_of s ≡ hi → lo ≤ hi → length words ≡ word_count lo hi
    → ((k i : ℕ) → k < length words → i < 64 → has_bit (get_or words k 0) i ≡ f (64 * (lo / 64 + k) + i)) → ((b : ℕ) → b < lo → f b ≡ false)
    → ((b : ℕ) → hi ≤ b → f b ≡ false) → HoldSet (set_of s.lo (hi_of s) f) lo hi words
HoldSet-made s f lo hi words at_lo at_hi ordered count places below above =
    let same : set_of lo hi f ≡ set_of s.lo (hi_of s) f = ap₂ (λ (a b : ℕ). set_of a b f) (sym at_lo) (sym at_hi) in
    subst (λ (t : RowSet). HoldSet t lo hi words) same (HoldSet-from_places lo hi words f ordered count places below above)

-- one set has one list of words
pub HoldSet-unique : {s : RowSet} {lo hi : ℕ} {xs ys : List ℕ} → HoldSet s lo hi xs → HoldSet s lo hi ys → ((k : ℕ) → get_or xs k 0 < 2 ^ 64)
    → ((k : ℕ) → get_or ys k 0 < 2 ^ 64) → xs ≡ ys
HoldSet-unique {s} {lo} {hi} {xs} {ys} p q xs_fit ys_fit =
    ext_get_or 0 xs ys (p.well_formed.count ∙ sym q.well_formed.count) (λ k within.
    same_words (get_or xs k 0) (get_or ys k 0) (xs_fit k) (ys_fit k) (λ i place.
    HoldSet-bit p k i place ∙ sym (HoldSet-bit q k i place)))

-- the word and the place of a bit of the range
pub HoldSet-has : {s : RowSet} {lo hi : ℕ} {words : List ℕ} → HoldSet s lo hi words → (b : ℕ) → s.lo ≤ b → b < hi_of s
    → has_bit (get_or words (b / 64 - lo / 64) 0) (b % 64) ≡ contains s b
HoldSet-has {s} {lo} {hi} {words} h b low high =
    let start = HoldSet-lo h in
    let back : 64 * (lo / 64 + (b / 64 - lo / 64)) + b % 64 ≡ b = omega arith in
    HoldSet-bit h (b / 64 - lo / 64) (b % 64) (omega arith) ∙ ap (contains s) back

-- words of zeros hold the empty set
pub HoldSet-zeros : (lo hi : ℕ) → lo ≤ hi → HoldSet (empty_set lo hi) lo hi (replicate (word_count lo hi) 0)
unfolding empty_set
HoldSet-zeros lo hi ordered =
    HoldSet-from_places lo hi (replicate (word_count lo hi) 0) (λ _. false) ordered (length-replicate {A = ℕ} (word_count lo hi) 0)
    (λ k i present within.
    ap (λ word. has_bit word i) (get_or-replicate (word_count lo hi) k 0 0 (omega (arith, present, length-replicate {A = ℕ} (word_count lo hi) 0)))
    ∙ has_bit-zero i)
    (λ _ _. refl) (λ _ _. refl)

-- ---- a row after one of its operations

-- a slice of the words that was lent and written comes back as it was left
pub HoldSet-refill : {s : RowSet} {lo hi : ℕ} (xs ys : List ℕ) → HoldSet s lo hi ys → length ys ≡ length xs
    → HoldSet s lo hi (refill (length xs) xs ys)
HoldSet-refill {s} {lo} {hi} xs ys h same =
    subst (λ (zs : List ℕ). HoldSet s lo hi zs) (sym (take_at ys (drop (length ys) xs) (length xs) same)) h

pub HoldSet-moved : {s : RowSet} {lo hi : ℕ} {xs : List ℕ} → HoldSet s lo hi xs → (low high : ℕ) → lo ≡ low → hi ≡ high → HoldSet s low high xs
HoldSet-moved {s} {lo} {hi} {xs} h low high p q =
    subst (λ (a : ℕ). HoldSet s a high xs) p (subst (λ (b : ℕ). HoldSet s lo b xs) q h)

-- two rows of one range, as they are lent: both in that range, and of as many words
pub HoldSet-alike : {s t : RowSet} {lo hi low high : ℕ} {words others xs ys : List ℕ} → HoldSet s lo hi words → HoldSet t low high others
    → HasRange t s.lo (hi_of s) → xs ≡ words → ys ≡ others
    → HoldSet s lo hi xs × HoldSet t lo hi ys × (length xs ≡ length ys)
HoldSet-alike {s} {t} {lo} {hi} {low} {high} {words} {others} {xs} {ys} h k range p q =
    let there : HoldSet t lo hi others =
    HoldSet-moved k lo hi (omega (arith, range.lo, HoldSet-lo h, HoldSet-lo k)) (omega (arith, range.hi, HoldSet-hi h, HoldSet-hi k)) in (
      subst (λ (zs : List ℕ). HoldSet s lo hi zs) (sym p) h,
      subst (λ (zs : List ℕ). HoldSet t lo hi zs) (sym q) there,
      ap length p ∙ h.well_formed.count ∙ sym there.well_formed.count ∙ sym (ap length q),
    )

-- words that are cleared outside lo..hi, and inside it are the values of a test
module _ (lo hi : ℕ) (old words : List ℕ) (f : ℕ → Bool) (ordered : lo ≤ hi) (count : length words ≡ word_count lo hi)
    (trimmed : IsTrimmed lo hi old words)
    (places : (k i : ℕ) → k < length words → i < 64 → has_bit (get_or old k 0) i ≡ f (64 * (lo / 64 + k) + i)) where
  clear : (k i : ℕ) → i < 64 → has_bit (range_mask lo hi (lo / 64 + k)) i ≡ false → has_bit (get_or words k 0) i ≡ false
  clear k i within outside =
      elim (cases_lt k (length words)) [
        | inl present ↦ trimmed k i present within ∙ and_right (has_bit (get_or old k 0) i) (has_bit (range_mask lo hi (lo / 64 + k)) i) outside
        | inr past ↦ ap (λ word. has_bit word i) (get_or_past words k 0 past) ∙ has_bit-zero i
      ]

  pub HoldSet-trimmed : HoldSet (set_of lo hi f) lo hi words
  unfolding words_have
  HoldSet-trimmed = record {
    well_formed = record {
      ordered = ordered;
      count = count;
      clear_below = λ k i within outside. clear k i within (has_bit-mask_below lo hi (lo / 64 + k) i within outside);
      clear_above = λ k i within outside. clear k i within (has_bit-mask_above lo hi (lo / 64 + k) i within outside);
    };
    held = same_set_of lo hi (words_have words (lo / 64)) f (λ b low high.
        let back : 64 * (lo / 64 + (b / 64 - lo / 64)) + b % 64 ≡ b = omega arith in
        let place : b % 64 < 64 = omega arith in
        let present : b / 64 - lo / 64 < length words = omega (arith, count, low, high) in
        trimmed (b / 64 - lo / 64) (b % 64) present place
        ∙ sym (keep (has_bit (get_or old (b / 64 - lo / 64) 0) (b % 64)) (has_bit (range_mask lo hi (lo / 64 + (b / 64 - lo / 64))) (b % 64))
        (has_bit-mask_inside lo hi (lo / 64 + (b / 64 - lo / 64)) (b % 64) place (omega (arith, back, low)) (omega (arith, back, high))))
        ∙ places (b / 64 - lo / 64) (b % 64) present place
        ∙ ap f back);
  }

-- the words of two rows of one range, and those that an operation makes of them, place by place
module _ (s t : RowSet) (lo hi : ℕ) (xs ys zs : List ℕ) (p : HoldSet s lo hi xs) (q : HoldSet t lo hi ys) (same : length zs ≡ length xs) where
  pub HoldSet-union : CombinesPlaces ◌||◌ xs ys zs → HoldSet (union s t) lo hi zs
  unfolding union
  HoldSet-union each =
      HoldSet-made s (λ b. contains s b || contains t b) lo hi zs (HoldSet-lo p) (HoldSet-hi p) p.well_formed.ordered (same ∙ p.well_formed.count)
      (λ k i present within. each k i present within ∙ ap₂ ◌||◌ (HoldSet-bit p k i within) (HoldSet-bit q k i within))
      (λ b outside. or_from (contains s b) (contains t b)
      (contains-below s b (omega (arith, outside, HoldSet-lo p)))
      (contains-below t b (omega (arith, outside, HoldSet-lo q))))
      (λ b outside. or_from (contains s b) (contains t b)
      (contains-above s b (omega (arith, outside, HoldSet-hi p)))
      (contains-above t b (omega (arith, outside, HoldSet-hi q))))

  pub HoldSet-intersection : CombinesPlaces ◌&&◌ xs ys zs → HoldSet (intersection s t) lo hi zs
  unfolding intersection
  HoldSet-intersection each =
      HoldSet-made s (λ b. contains s b && contains t b) lo hi zs (HoldSet-lo p) (HoldSet-hi p) p.well_formed.ordered (same ∙ p.well_formed.count)
      (λ k i present within. each k i present within ∙ ap₂ ◌&&◌ (HoldSet-bit p k i within) (HoldSet-bit q k i within))
      (λ b outside. and_left (contains s b) (contains t b) (contains-below s b (omega (arith, outside, HoldSet-lo p))))
      (λ b outside. and_left (contains s b) (contains t b) (contains-above s b (omega (arith, outside, HoldSet-hi p))))

  pub HoldSet-difference : CombinesPlaces (λ ours theirs. ours && not theirs) xs ys zs → HoldSet (difference s t) lo hi zs
  unfolding difference
  HoldSet-difference each =
      HoldSet-made s (λ b. contains s b && not (contains t b)) lo hi zs (HoldSet-lo p) (HoldSet-hi p) p.well_formed.ordered
      (same ∙ p.well_formed.count)
      (λ k i present within. each k i present within ∙ ap₂ (λ x y. x && not y) (HoldSet-bit p k i within) (HoldSet-bit q k i within))
      (λ b outside. and_left (contains s b) (not (contains t b)) (contains-below s b (omega (arith, outside, HoldSet-lo p))))
      (λ b outside. and_left (contains s b) (not (contains t b)) (contains-above s b (omega (arith, outside, HoldSet-hi p))))

-- the words of one row, complemented and cleared outside the range
pub HoldSet-complement : (s : RowSet) (lo hi : ℕ) (xs ys zs : List ℕ) → HoldSet s lo hi xs → length ys ≡ length xs → length zs ≡ length ys
    → MapsPlaces not xs ys → IsTrimmed lo hi ys zs → HoldSet (complement s) lo hi zs
unfolding complement
HoldSet-complement s lo hi xs ys zs p same_ys same_zs complemented trimmed =
    let made : HoldSet (set_of lo hi (λ b. not (contains s b))) lo hi zs =
    HoldSet-trimmed lo hi ys zs (λ b. not (contains s b)) p.well_formed.ordered (same_zs ∙ same_ys ∙ p.well_formed.count) trimmed
    (λ k i present within. complemented k i (omega arith) within ∙ ap not (HoldSet-bit p k i within)) in
    let range : set_of lo hi (λ b. not (contains s b)) ≡ set_of s.lo (hi_of s) (λ b. not (contains s b)) =
    ap₂ (λ (a b : ℕ). set_of a b (λ c. not (contains s c))) (sym (HoldSet-lo p)) (sym (HoldSet-hi p)) in
    subst (λ (t : RowSet). HoldSet t lo hi zs) range made

-- two rows that hold one set in words with other places cannot be
pub same_places : {s : RowSet} {lo hi : ℕ} {xs ys : List ℕ} → HoldSet s lo hi xs → HoldSet s lo hi ys → SamePlaces xs ys
same_places p q = λ k i present within. HoldSet-bit q k i within ∙ sym (HoldSet-bit p k i within)

pub MatchBool-map : (b : Bool) {P Q R S : Type 0} → (P → R) → (Q → S) → MatchBool b P Q → MatchBool b R S
MatchBool-map true f g h = f h
MatchBool-map false f g h = g h

-- one word of a row with the places of a mask, which lies within the range
module _ (s : RowSet) (lo hi : ℕ) (xs : List ℕ) (w mask : ℕ) (p : HoldSet s lo hi xs) (inside : MaskLiesWithin s.lo (hi_of s) w mask) where
  in_mask : ℕ → Bool
  in_mask c = eqb (c / 64) w && has_bit mask (c % 64)

  outside_mask : (c : ℕ) → ((s.lo ≤ c) × (c < hi_of s) → ⊥) → (eqb (c / 64) w && has_bit mask (c % 64)) ≡ false
  outside_mask c outside = elim (cases_Bool (eqb (c / 64) w)) [
    | inl here ↦ elim (cases_Bool (has_bit mask (c % 64))) [
      | inl one ↦
          let same : c / 64 ≡ w = eqb-true (c / 64) w here in
          let bounds = inside (c % 64) (omega arith) one in
          absurd (outside (omega (arith, bounds), omega (arith, bounds)))
      | inr clear ↦ and_right (eqb (c / 64) w) (has_bit mask (c % 64)) clear
    ]
    | inr other ↦ and_left (eqb (c / 64) w) (has_bit mask (c % 64)) other
  ]

  pub HoldSet-with_word : lo / 64 ≤ w → w - lo / 64 < length xs
      → HoldSet (with_word s w mask) lo hi (set xs (w - lo / 64) (bit_or (get_or xs (w - lo / 64) 0) mask))
  unfolding with_word
  HoldSet-with_word from present =
      let at : ℕ = w - lo / 64 in
      let word : ℕ = bit_or (get_or xs (w - lo / 64) 0) mask in
      HoldSet-made s (λ c. contains s c || (eqb (c / 64) w && has_bit mask (c % 64))) lo hi (set xs at word) (HoldSet-lo p) (HoldSet-hi p)
      p.well_formed.ordered (length-set xs at word ∙ p.well_formed.count)
      (λ k i _ within.
      let b : ℕ = 64 * (lo / 64 + k) + i in
      let at_place : (64 * (lo / 64 + k) + i) % 64 ≡ i = omega arith in
      elim (cases_eq k (w - lo / 64)) [
        | inl here ↦
            let at_word : (64 * (lo / 64 + k) + i) / 64 ≡ w = omega arith in
            ap (λ j. has_bit (get_or (set xs at word) j 0) i) here
            ∙ ap (λ v. has_bit v i) (get_or-set_same xs at word 0 present)
            ∙ has_bit-or (get_or xs at 0) mask i
            ∙ ap (λ j. has_bit (get_or xs j 0) i || has_bit mask i) (sym here)
            ∙ ap₂ (λ (x : Bool) (j : ℕ). x || (true && has_bit mask j)) (HoldSet-bit p k i within) (sym at_place)
            ∙ ap (λ t. contains s b || (t && has_bit mask (b % 64))) (sym (eq-eqb (b / 64) w at_word))
        | inr other ↦
            let off_word : (64 * (lo / 64 + k) + i) / 64 ≡ w → ⊥ = omega arith in
            ap (λ v. has_bit v i) (get_or-set_other xs at k word 0 other)
            ∙ HoldSet-bit p k i within
            ∙ sym (or-false (contains s b))
            ∙ ap (λ t. contains s b || (t && has_bit mask (b % 64))) (sym (ne_eqb (b / 64) w off_word))
      ])
      (λ c below. or_from (contains s c) (eqb (c / 64) w && has_bit mask (c % 64)) (contains-below s c (omega (arith, below, HoldSet-lo p)))
      (outside_mask c (λ range. omega (arith, range, below, HoldSet-lo p))))
      (λ c above. or_from (contains s c) (eqb (c / 64) w && has_bit mask (c % 64)) (contains-above s c (omega (arith, above, HoldSet-hi p)))
      (outside_mask c (λ range. omega (arith, range, above, HoldSet-hi p))))

-- the words of a row with the places of masks, each of which lies within the range
module _ (s : RowSet) (lo hi : ℕ) (xs : List ℕ) (first : ℕ) (masks ys : List ℕ) (p : HoldSet s lo hi xs)
    (inside : (k : ℕ) → k < length masks → MaskLiesWithin s.lo (hi_of s) (first + k) (get_or masks k 0)) where
  outside_masks : (c : ℕ) → ((s.lo ≤ c) × (c < hi_of s) → ⊥) → masks_have masks first (c / 64) (c % 64) ≡ false
  unfolding masks_have
  outside_masks c outside = elim (cases_lt (c / 64) first) [
    | inl before ↦ and_left (leb first (c / 64)) (has_bit (get_or masks (c / 64 - first) 0) (c % 64)) (lt-leb first (c / 64) before)
    | inr from ↦
        and_right (leb first (c / 64)) (has_bit (get_or masks (c / 64 - first) 0) (c % 64)) (elim (cases_lt (c / 64 - first) (length masks)) [
          | inl within ↦ elim (cases_Bool (has_bit (get_or masks (c / 64 - first) 0) (c % 64))) [
            | inl one ↦
                let bounds = inside (c / 64 - first) within (c % 64) (omega arith) one in
                absurd (outside (omega (arith, bounds), omega (arith, bounds)))
            | inr clear ↦ clear
          ]
          | inr past ↦ ap (λ v. has_bit v (c % 64)) (get_or_past masks (c / 64 - first) 0 past) ∙ has_bit-zero (c % 64)
        ])
  ]

  pub HoldSet-with_words : length ys ≡ length xs → AddsPlaces (lo / 64) xs first masks ys → HoldSet (with_words s first masks) lo hi ys
  unfolding with_words
  HoldSet-with_words same added =
      HoldSet-made s (λ c. contains s c || masks_have masks first (c / 64) (c % 64)) lo hi ys (HoldSet-lo p) (HoldSet-hi p) p.well_formed.ordered
      (same ∙ p.well_formed.count)
      (λ k i present within.
      let b : ℕ = 64 * (lo / 64 + k) + i in
      let at_word : lo / 64 + k ≡ b / 64 = omega arith in
      let at_place : i ≡ b % 64 = omega arith in
      added k i present within
      ∙ ap₂ (λ (x y : Bool). x || y) (HoldSet-bit p k i within) (ap₂ (masks_have masks first) at_word at_place))
      (λ c below. or_from (contains s c) (masks_have masks first (c / 64) (c % 64)) (contains-below s c (omega (arith, below, HoldSet-lo p)))
      (outside_masks c (λ range. omega (arith, range, below, HoldSet-lo p))))
      (λ c above. or_from (contains s c) (masks_have masks first (c / 64) (c % 64)) (contains-above s c (omega (arith, above, HoldSet-hi p)))
      (outside_masks c (λ range. omega (arith, range, above, HoldSet-hi p))))

-- one place of one word
module _ (s : RowSet) (lo hi : ℕ) (xs : List ℕ) (b : ℕ) (p : HoldSet s lo hi xs) (low : s.lo ≤ b) (high : b < hi_of s) where
  place_mask : (i : ℕ) → i < 64 → has_bit (1 * 2 ^ (b % 64) % 2 ^ 64) i ≡ true → i ≡ b % 64
  place_mask i within one = elim (cases_eq i (b % 64)) [
    | inl same ↦ same
    | inr other ↦ absurd (both_ways (has_bit (1 * 2 ^ (b % 64) % 2 ^ 64) i) (has_bit-shifted_other (b % 64) i (omega arith) other) one)
  ]

  same_test : (c : ℕ) → (eqb (c / 64) (b / 64) && has_bit (1 * 2 ^ (b % 64) % 2 ^ 64) (c % 64)) ≡ eqb c b
  same_test c = elim (cases_eq c b) [
    | inl same ↦
        let word : c / 64 ≡ b / 64 = omega arith in
        let place : c % 64 ≡ b % 64 = omega arith in
        ap₂ ◌&&◌ (eq-eqb (c / 64) (b / 64) word) (ap (has_bit (1 * 2 ^ (b % 64) % 2 ^ 64)) place ∙ has_bit-shifted_same (b % 64) (omega arith))
        ∙ sym (eq-eqb c b same)
    | inr other ↦
        elim (cases_eq (c / 64) (b / 64)) [
          | inl word ↦
              let place : c % 64 ≡ b % 64 → ⊥ = omega arith in
              and_right (eqb (c / 64) (b / 64)) (has_bit (1 * 2 ^ (b % 64) % 2 ^ 64) (c % 64))
              (has_bit-shifted_other (b % 64) (c % 64) (omega arith) place)
          | inr off ↦ and_left (eqb (c / 64) (b / 64)) (has_bit (1 * 2 ^ (b % 64) % 2 ^ 64) (c % 64)) (ne_eqb (c / 64) (b / 64) off)
        ]
        ∙ sym (ne_eqb c b other)
  ]

  same_with_bit : with_word s (b / 64) (1 * 2 ^ (b % 64) % 2 ^ 64) ≡ with_bit s b
  unfolding with_word with_bit
  same_with_bit = same_set_of s.lo (hi_of s) (λ c. contains s c || (eqb (c / 64) (b / 64) && has_bit (1 * 2 ^ (b % 64) % 2 ^ 64) (c % 64)))
      (λ c. contains s c || eqb c b)
      (λ c _ _. ap (λ t. contains s c || t) (same_test c))

  pub HoldSet-with_bit : HoldSet (with_bit s b) lo hi
      (set xs (b / 64 - lo / 64) (bit_or (get_or xs (b / 64 - lo / 64) 0) (1 * 2 ^ (b % 64) % 2 ^ 64)))
  HoldSet-with_bit =
      subst (λ (t : RowSet). HoldSet t lo hi (set xs (b / 64 - lo / 64) (bit_or (get_or xs (b / 64 - lo / 64) 0) (1 * 2 ^ (b % 64) % 2 ^ 64))))
      same_with_bit
      (HoldSet-with_word s lo hi xs (b / 64) (1 * 2 ^ (b % 64) % 2 ^ 64) p
      (λ i within one. let at : i ≡ b % 64 = place_mask i within one in (omega arith, omega arith))
      (omega (arith, HoldSet-lo p)) (omega (arith, p.well_formed.count, HoldSet-lo p, HoldSet-hi p)))

-- an empty mask changes nothing
pub with_word-zero : (s : RowSet) (w mask : ℕ) → mask ≡ 0 → with_word s w mask ≡ s
unfolding with_word
with_word-zero s w mask none =
    same_set_of s.lo (hi_of s) (λ c. contains s c || (eqb (c / 64) w && has_bit mask (c % 64))) (contains s)
    (λ c _ _.
    ap (λ t. contains s c || t) (and_right (eqb (c / 64) w) (has_bit mask (c % 64)) (ap (λ m. has_bit m (c % 64)) none ∙ has_bit-zero (c % 64)))
    ∙ or-false (contains s c))
    ∙ set_of-contains s

-- whether a word that was put in changed the row
module _ (s t : RowSet) (lo hi : ℕ) (xs : List ℕ) (at word : ℕ) (p : HoldSet s lo hi xs) (q : HoldSet t lo hi (set xs at word))
    (present : at < length xs) (old_fits : get_or xs at 0 < 2 ^ 64) (new_fits : word < 2 ^ 64) where
  same_word : t ≡ s → word ≡ get_or xs at 0
  same_word same =
      let there : HoldSet s lo hi (set xs at word) = subst (λ (u : RowSet). HoldSet u lo hi (set xs at word)) same q in
      same_words word (get_or xs at 0) new_fits old_fits (λ i within.
      ap (λ v. has_bit v i) (sym (get_or-set_same xs at word 0 present))
      ∙ HoldSet-bit there at i within
      ∙ sym (HoldSet-bit p at i within))

  same_set : word ≡ get_or xs at 0 → t ≡ s
  same_set same =
      let kept : set xs at word ≡ xs = ap (set xs at) same ∙ set-get_or xs at 0 in
      sym q.held ∙ ap (λ ws. set_of lo hi (words_have ws (lo / 64))) kept ∙ p.held

  pub changed_by_word : MatchBool (not (eqb word (get_or xs at 0))) (t ≢ s) (t ≡ s)
  changed_by_word =
      elim (cases_Bool (eqb word (get_or xs at 0))) [
        | inl same ↦ subst (λ (b : Bool). MatchBool (not b) (t ≢ s) (t ≡ s)) (sym same) (same_set (eqb-true word (get_or xs at 0) same))
        | inr other ↦
            subst (λ (b : Bool). MatchBool (not b) (t ≢ s) (t ≡ s)) (sym other) (λ equal. eqb-false word (get_or xs at 0) other (same_word equal))
      ]
