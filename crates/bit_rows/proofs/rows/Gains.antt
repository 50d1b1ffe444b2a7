-- Which words gain a place when one list of words is put into another.
use Rattle.std.proofs.Common.{◌≡◌, ℕ, ◌+◌, ◌-◌, ◌^◌, ◌<◌, ◌≤◌, Bool, true, false, not, ◌&&◌, ◌||◌, eqb, MatchBool, List, [], ◌∷◌, zero, suc, length}
use Rattle.std.proofs.Common.{get_or, replicate, refl, sym, ap, ap₂, ◌∙◌, subst, inl, inr, arith, bit_and, bit_or, w64}
use Rattle.std.specs.Int.{bit_not}
use Rattle.std.proofs.lemmas.Nat.{le_or_l, le_or_r, and_le_l}
use Rattle.std.proofs.lemmas.List.{ext_get_or, get_or_past, get_or-replicate}
use Rattle.std.proofs.lemmas.Bool.{cases_lt, cases_Bool, eqb-true, eqb-false, false≢true}
use Rattle.std.proofs.lemmas.Simd.{get_or-zip2, length-zip2}
use lib.Lanes.{zip2, fold_l}
use Rattle.bit_rows.specs.Words.{has_bit, SamePlaces, CombinesPlaces}
use Rattle.bit_rows.proofs.words.WordBits.{has_bit-and, has_bit-not, has_bit-zero, same_words}

-- the places that word k of old gains from source
abbrev pub gain : List ℕ → List ℕ → ℕ → ℕ
gain old source k = bit_and (get_or source k 0) (bit_not w64 (get_or old k 0))

-- no word below number at gains a place
abbrev pub NoGain : List ℕ → List ℕ → ℕ → Type 0
NoGain old source at = (k : ℕ) → k < at → gain old source k ≡ 0

abbrev pub AllZero : List ℕ → Type 0
AllZero xs = (j : ℕ) → get_or xs j 0 ≡ 0

-- a number, or each of a list, is 0 where no word so far gained a place, and there alone
pub record Tells (old source : List ℕ) (at gained : ℕ) : Type 0 where
  pub none : NoGain old source at → gained ≡ 0
  pub zero : gained ≡ 0 → NoGain old source at

pub record LanesTell (old source : List ℕ) (at : ℕ) (gained : List ℕ) : Type 0 where
  pub none : NoGain old source at → AllZero gained
  pub zero : AllZero gained → NoGain old source at

pub or_zero : (x y : ℕ) → x ≡ 0 → y ≡ 0 → bit_or x y ≡ 0
or_zero x y p q = ap₂ bit_or p q

pub zero_left : (x y : ℕ) → bit_or x y ≡ 0 → x ≡ 0
zero_left x y e = omega (arith, le_or_l x y)

pub zero_right : (x y : ℕ) → bit_or x y ≡ 0 → y ≡ 0
zero_right x y e = omega (arith, le_or_r x y)

pub Tells-more : {old source : List ℕ} {at gained : ℕ} → Tells old source at gained → (word : ℕ) → word ≡ gain old source at
    → Tells old source (at + 1) (bit_or gained word)
Tells-more {old} {source} {at} {gained} so_far word made = record {
  none = λ clear. or_zero gained word (so_far.none (λ k below. clear k (omega arith))) (made ∙ clear at (omega arith));
  zero = λ e k below. elim (cases_lt k at) [
    | inl before ↦ so_far.zero (zero_left gained word e) k before
    | inr here ↦
        let at_end : k ≡ at = omega arith in
        ap (gain old source) at_end ∙ sym made ∙ zero_right gained word e
  ];
}

-- ---- lanes
pub LanesTell-none : (old source : List ℕ) → LanesTell old source 0 (replicate 8 0)
LanesTell-none old source = record {
  none = λ _ j. elim (cases_lt j 8) [
    | inl within ↦ get_or-replicate 8 j 0 0 within
    | inr past ↦ get_or_past (replicate 8 0) j 0 past
  ];
  zero = λ _ k below. absurd (omega arith);
}

module _ {old source : List ℕ} {at : ℕ} {gained : List ℕ} (so_far : LanesTell old source at gained) (eight : length gained ≡ 8) (lanes : List ℕ)
    (lanes_eight : length lanes ≡ 8) (made : (j : ℕ) → j < 8 → get_or lanes j 0 ≡ gain old source (at + j)) where
  at_lane : (j : ℕ) → j < 8 → get_or (zip2 bit_or gained lanes) j 0 ≡ bit_or (get_or gained j 0) (get_or lanes j 0)
  at_lane j within = get_or-zip2 bit_or gained lanes j 0 0 0 (omega (arith, eight)) (omega (arith, lanes_eight))

  past_lanes : (j : ℕ) → 8 ≤ j → get_or (zip2 bit_or gained lanes) j 0 ≡ 0
  past_lanes j past = get_or_past (zip2 bit_or gained lanes) j 0 (omega (arith, length-zip2 bit_or gained lanes (eight ∙ sym lanes_eight), eight))

  gained_zero : AllZero (zip2 bit_or gained lanes) → AllZero gained
  gained_zero all j = elim (cases_lt j 8) [
    | inl within ↦ zero_left (get_or gained j 0) (get_or lanes j 0) (sym (at_lane j within) ∙ all j)
    | inr past ↦ get_or_past gained j 0 (omega (arith, eight))
  ]

  pub LanesTell-more : LanesTell old source (at + 8) (zip2 bit_or gained lanes)
  LanesTell-more = record {
    none = λ clear j. elim (cases_lt j 8) [
      | inl within ↦ at_lane j within ∙ or_zero (get_or gained j 0) (get_or lanes j 0) (so_far.none (λ k below. clear k (omega arith)) j)
          (made j within ∙ clear (at + j) (omega arith))
      | inr past ↦ past_lanes j past
    ];
    zero = λ all k below. elim (cases_lt k at) [
      | inl before ↦ so_far.zero (gained_zero all) k before
      | inr above ↦
          let there : k ≡ at + (k - at) = omega arith in
          let within : k - at < 8 = omega arith in
          ap (gain old source) there ∙ sym (made (k - at) within)
          ∙ zero_right (get_or gained (k - at) 0) (get_or lanes (k - at) 0) (sym (at_lane (k - at) within) ∙ all (k - at))
    ];
  }

-- the lanes put together are 0 where each of them is
zero_start : (a : ℕ) (xs : List ℕ) → fold_l bit_or a xs ≡ 0 → a ≡ 0
zero_start a [] e = e
zero_start a (x ∷ xs) e = zero_left a x (zero_start (bit_or a x) xs e)

zero_lane : (a : ℕ) (xs : List ℕ) → fold_l bit_or a xs ≡ 0 → AllZero xs
zero_lane a [] e j = refl
zero_lane a (x ∷ xs) e zero = zero_right a x (zero_start (bit_or a x) xs e)
zero_lane a (x ∷ xs) e (suc j) = zero_lane (bit_or a x) xs e j

fold_zero : (a : ℕ) (xs : List ℕ) → a ≡ 0 → AllZero xs → fold_l bit_or a xs ≡ 0
fold_zero a [] e all = e
fold_zero a (x ∷ xs) e all = fold_zero (bit_or a x) xs (or_zero a x e (all 0)) (λ j. all (suc j))

pub Tells-lanes : {old source : List ℕ} {at : ℕ} {gained : List ℕ} → LanesTell old source at gained → Tells old source at (fold_l bit_or 0 gained)
Tells-lanes {old} {source} {at} {gained} told = record {
  none = λ clear. fold_zero 0 gained refl (told.none clear);
  zero = λ e. told.zero (zero_lane 0 gained e);
}

-- ---- what the loop says of the whole list
cases_put : (x y : Bool) → (y && not x) ≡ false → (x || y) ≡ x
cases_put true y e = refl
cases_put false true e = absurd (false≢true (sym e))
cases_put false false e = refl

cases_gain : (x y : Bool) → (x || y) ≡ x → (y && not x) ≡ false
cases_gain true true e = refl
cases_gain true false e = refl
cases_gain false true e = absurd (false≢true (sym e))
cases_gain false false e = refl

module _ (old source new : List ℕ) (same_length : length new ≡ length old) (old_fits : (k : ℕ) → get_or old k 0 < 2 ^ 64)
    (new_fits : (k : ℕ) → get_or new k 0 < 2 ^ 64) (places : CombinesPlaces ◌||◌ old source new) where
  gain_bit : (k i : ℕ) → i < 64 → has_bit (gain old source k) i ≡ (has_bit (get_or source k 0) i && not (has_bit (get_or old k 0) i))
  gain_bit k i within =
      has_bit-and (get_or source k 0) (bit_not w64 (get_or old k 0)) i
      ∙ ap (λ bit. has_bit (get_or source k 0) i && bit) (has_bit-not (get_or old k 0) i (old_fits k) within)

  -- where no word gained a place, the list is as it was
  same_from_no_gain : NoGain old source (length old) → new ≡ old
  same_from_no_gain clear = ext_get_or 0 new old same_length (λ k present.
      same_words (get_or new k 0) (get_or old k 0) (new_fits k) (old_fits k) (λ i within.
      places k i present within
      ∙ cases_put (has_bit (get_or old k 0) i) (has_bit (get_or source k 0) i)
      (sym (gain_bit k i within) ∙ ap (λ word. has_bit word i) (clear k (omega (arith, present, same_length))) ∙ has_bit-zero i)))

  -- where each place is as it was, no word gained one
  no_gain_from_same : ((k : ℕ) → get_or source k 0 < 2 ^ 64) → SamePlaces old new → NoGain old source (length old)
  no_gain_from_same source_fits same k below =
      same_words (gain old source k) 0 (omega (arith, and_le_l (get_or source k 0) (bit_not w64 (get_or old k 0)), source_fits k)) (omega arith)
      (λ i within.
      let present : k < length new = omega (arith, same_length) in
      gain_bit k i within
      ∙ cases_gain (has_bit (get_or old k 0) i) (has_bit (get_or source k 0) i) (sym (places k i present within) ∙ same k i present within)
      ∙ sym (has_bit-zero i))

  pub changed_from_gain : ((k : ℕ) → get_or source k 0 < 2 ^ 64) → (gained : ℕ) → Tells old source (length old) gained
      → MatchBool (not (eqb gained 0)) (¬ SamePlaces old new) (new ≡ old)
  changed_from_gain source_fits gained told =
      elim (cases_Bool (eqb gained 0)) [
        | inl none ↦ subst (λ (b : Bool). MatchBool (not b) (¬ SamePlaces old new) (new ≡ old)) (sym none)
            (same_from_no_gain (told.zero (eqb-true gained 0 none)))
        | inr some ↦ subst (λ (b : Bool). MatchBool (not b) (¬ SamePlaces old new) (new ≡ old)) (sym some)
            (λ same. eqb-false gained 0 some (told.none (no_gain_from_same source_fits same)))
      ]
