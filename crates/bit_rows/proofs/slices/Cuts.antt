-- Slices of a universe of bits.
use Rattle.std.proofs.Common.{◌≡◌, ℕ, zero, suc, ◌+◌, ◌-◌, ◌*◌, ◌<◌, ◌≤◌, min, Bool, cond, List, [], ◌∷◌, ◌++◌, length, get_or, refl, sym, ap, ap₂}
use Rattle.std.proofs.Common.{◌∙◌, subst, inl, inr, arith, add-one}
use Rattle.std.proofs.lemmas.List.{get_or_append_left, get_or_push, length_push}
use Rattle.std.proofs.lemmas.Bool.{cases_lt, cases_eq, cases_order, ne_eqb}
use Rattle.bit_rows.specs.Slices.{Slices, CoverBits, IsEvenCut, ArePlaces, start_of, end_of, cut_at}

-- ---- slices in order
-- slice s begins no lower than s
start_rank : (c : Slices) → CoverBits c → (s : ℕ) → s ≤ length c.ends → s ≤ start_of c s
start_rank c cover zero within = omega arith
start_rank c cover (suc s) within =
    let below : s < length c.ends = omega arith in
    omega (arith, start_rank c cover s (omega arith), cover.rising s below)

-- there are no more slices than bits
pub slices_le_bits : (c : Slices) → CoverBits c → length c.ends ≤ c.bits
slices_le_bits c cover = omega (arith, start_rank c cover (length c.ends) (omega arith), cover.whole)

-- ---- the loop that cuts evenly
pub record EvenTo (bits width : ℕ) (ends : List ℕ) (end : ℕ) : Type 0 where
  pub each : (s : ℕ) → s < length ends → get_or ends s 0 ≡ min ((s + 1) * width) bits
  pub below : (s : ℕ) → s < length ends → s * width < bits
  pub reached : end ≡ min (length ends * width) bits

pub EvenTo-none : (bits width : ℕ) → EvenTo bits width [] 0
EvenTo-none bits width = record { each = λ s h. absurd (omega arith); below = λ s h. absurd (omega arith); reached = omega arith }

pub EvenTo-more : (bits width : ℕ) (ends : List ℕ) (end next : ℕ) → EvenTo bits width ends end → end < bits → next ≡ end + min width (bits - end)
    → EvenTo bits width (ends ++ next ∷ []) next
EvenTo-more bits width ends end next so_far more is_next =
    let n : ℕ = length ends in
    let here : end ≡ length ends * width = omega (arith, so_far.reached) in
    let made : next ≡ min ((length ends + 1) * width) bits = omega (arith, so_far.reached) in
    let longer = length_push ends next in
    record {
      each = λ s within. elim (cases_lt s (length ends)) [
        | inl before ↦ get_or_append_left ends (next ∷ []) 0 s before ∙ so_far.each s before
        | inr after ↦
            let last : length ends ≡ s = omega arith in
            get_or_push ends next 0 s last ∙ made ∙ ap (λ k. min ((k + 1) * width) bits) last
      ];
      below = λ s within. elim (cases_lt s (length ends)) [
        | inl before ↦ so_far.below s before
        | inr after ↦
            let last : length ends ≡ s = omega arith in
            omega (arith, ap (λ k. k * width) last)
      ];
      reached = made ∙ ap (λ k. min (k * width) bits) (sym longer);
    }

module _ (bits width : ℕ) (ends : List ℕ) (end : ℕ) (wide : 0 < width) (whole : EvenTo bits width ends end) (reached : bits ≤ end) where
  start_at : (s : ℕ) → s < length ends → get_or (0 ∷ ends) s 0 ≡ s * width
  start_at zero within = omega arith
  start_at (suc s) within = omega (arith, whole.each s (omega arith), whole.below (suc s) within)

  last_end : (n : ℕ) → n ≡ length ends → get_or (0 ∷ ends) n 0 ≡ bits
  last_end zero none = omega (arith, ap (λ k. k * width) none, whole.reached)
  last_end (suc m) count = omega (arith, whole.each m (omega arith), ap (λ k. k * width) count, whole.reached)

  pub IsEvenCut-reached : IsEvenCut (record { bits = bits; ends = ends }) bits width
  IsEvenCut-reached = record {
    universe = refl;
    cover = record {
      rising = λ s within. omega (arith, start_at s within, whole.each s within, whole.below s within);
      whole = last_end (length ends) refl;
    };
    starts = start_at;
    ends = whole.each;
  }

-- ---- the test of places
pub record PlacesTo (bits : ℕ) (places : List ℕ) (n last : ℕ) : Type 0 where
  pub rising : (j k : ℕ) → j < k → k < n → get_or places j 0 < get_or places k 0
  pub positive : (k : ℕ) → k < n → 0 < get_or places k 0
  pub below : (k : ℕ) → k < n → get_or places k 0 < bits
  pub highest : (k : ℕ) → k < n → get_or places k 0 ≤ last
  pub last_is : last ≡ get_or (0 ∷ places) n 0

pub PlacesTo-none : (bits : ℕ) (places : List ℕ) → PlacesTo bits places 0 0
PlacesTo-none bits places = record {
  rising = λ j k p h. absurd (omega arith);
  positive = λ k h. absurd (omega arith);
  below = λ k h. absurd (omega arith);
  highest = λ k h. absurd (omega arith);
  last_is = refl;
}

pub PlacesTo-more : (bits : ℕ) (places : List ℕ) (n last place : ℕ) → PlacesTo bits places n last → place ≡ get_or places n 0 → last < place
    → place < bits → PlacesTo bits places (n + 1) place
PlacesTo-more bits places n last place so_far is_place above under =
    let at : (k : ℕ) → n ≤ k → k < n + 1 → get_or places k 0 ≡ place = λ k low high. let same : k ≡ n = omega arith in
    ap (λ i. get_or places i 0) same ∙ sym is_place in
    record {
      rising = λ j k order within. elim (cases_lt k n) [
        | inl before ↦ so_far.rising j k order before
        | inr end ↦ omega (arith, at k end within, so_far.highest j (omega arith))
      ];
      positive = λ k within. elim (cases_lt k n) [
        | inl before ↦ so_far.positive k before
        | inr end ↦ omega (arith, at k end within)
      ];
      below = λ k within. elim (cases_lt k n) [
        | inl before ↦ so_far.below k before
        | inr end ↦ omega (arith, at k end within)
      ];
      highest = λ k within. elim (cases_lt k n) [
        | inl before ↦ omega (arith, so_far.highest k before)
        | inr end ↦ omega (arith, at k end within)
      ];
      last_is = is_place ∙ ap (λ i. get_or (0 ∷ places) i 0) (sym (add-one n));
    }

-- a place that is not above the last one breaks the order
not_rising : (bits : ℕ) (places : List ℕ) (n last place : ℕ) → last ≡ get_or (0 ∷ places) n 0 → place ≡ get_or places n 0 → n < length places
    → place ≤ last → ArePlaces bits places → ⊥
not_rising bits places zero last place is_last is_place within low good = omega (arith, is_last, is_place, good.positive 0 within)
not_rising bits places (suc n) last place is_last is_place within low good =
    omega (arith, is_last, is_place, good.rising n (suc n) (omega arith) within)

pub not_places_below : (bits : ℕ) (places : List ℕ) (n last place : ℕ) → PlacesTo bits places n last → place ≡ get_or places n 0 → n < length places
    → place ≤ last → ArePlaces bits places → ⊥
not_places_below bits places n last place so_far is_place within low good =
    not_rising bits places n last place so_far.last_is is_place within low good

pub not_places_above : (bits : ℕ) (places : List ℕ) (n place : ℕ) → place ≡ get_or places n 0 → n < length places → bits ≤ place
    → ArePlaces bits places → ⊥
not_places_above bits places n place is_place within high good = omega (arith, is_place, good.below n within)

pub ArePlaces-all : (bits : ℕ) (places : List ℕ) (n last : ℕ) → PlacesTo bits places n last → length places ≤ n → ArePlaces bits places
ArePlaces-all bits places n last so_far all = record {
  rising = λ j k order within. so_far.rising j k order (omega arith);
  positive = λ k within. so_far.positive k (omega arith);
  below = λ k within. so_far.below k (omega arith);
}

-- ---- a cut at places
module _ (bits : ℕ) (places : List ℕ) (good : ArePlaces bits places) where
  -- with bits, the last slice ends with them
  start_below : (s : ℕ) → s ≤ length places → 0 < bits → get_or (0 ∷ (places ++ bits ∷ [])) s 0 < get_or (places ++ bits ∷ []) s 0
  start_below zero within some = elim (cases_lt 0 (length places)) [
    | inl several ↦ omega (arith, get_or_append_left places (bits ∷ []) 0 0 several, good.positive 0 several)
    | inr none ↦
        let empty : length places ≡ 0 = omega arith in
        omega (arith, get_or_push places bits 0 0 empty)
  ]
  start_below (suc s) within some =
      let before : s < length places = omega arith in
      let start = get_or_append_left places (bits ∷ []) 0 s before in
      elim (cases_lt (suc s) (length places)) [
        | inl inner ↦ omega (arith, start, get_or_append_left places (bits ∷ []) 0 (suc s) inner, good.rising s (suc s) (omega arith) inner)
        | inr end ↦
            let last : length places ≡ suc s = omega arith in
            omega (arith, start, get_or_push places bits 0 (suc s) last, good.below s before)
      ]

  cover_some : 0 < bits → CoverBits (record { bits = bits; ends = places ++ bits ∷ [] })
  cover_some some = record {
    rising = λ s within. start_below s (omega (arith, within, length_push places bits)) some;
    whole =
        ap (λ n. get_or (0 ∷ (places ++ bits ∷ [])) n 0) (length_push places bits ∙ add-one (length places))
        ∙ get_or_push places bits 0 (length places) refl;
  }

no_places : (bits : ℕ) (places : List ℕ) → ArePlaces bits places → bits ≡ 0 → places ≡ []
no_places bits [] good none = refl
no_places bits (p ∷ ps) good none = absurd (omega (arith, good.below 0 (omega arith)))

cover_none : CoverBits (record { bits = 0; ends = [] })
cover_none = record { rising = λ s within. absurd (omega arith); whole = refl }

pub CoverBits-cut_at : (bits : ℕ) (places : List ℕ) → ArePlaces bits places → CoverBits (cut_at bits places)
CoverBits-cut_at bits places good = elim (cases_eq bits 0) [
  | inl none ↦
      let make : ℕ → List ℕ → Slices = λ b ps. cut_at b ps in
      subst CoverBits (sym (ap₂ make none (no_places bits places good none))) cover_none
  | inr some ↦
      let make : Bool → Slices = λ t. record { bits = bits; ends = places ++ cond t [] (bits ∷ []) } in
      subst CoverBits (sym (ap make (ne_eqb bits 0 some))) (cover_some bits places good (omega arith))
]

-- ---- the slices of a cut: they rise, and each bit is in exactly one
module _ (c : Slices) (cover : CoverBits c) where
  -- a slice ends no later than a later one begins
  pub end_le_start : (s t : ℕ) → s < t → t ≤ length c.ends → end_of c s ≤ start_of c t
  end_le_start s zero order within = absurd (omega arith)
  end_le_start s (suc t) order within = elim (cases_eq s t) [
    | inl last ↦ omega (arith, ap (end_of c) last)
    | inr earlier ↦ omega (arith, end_le_start s t (omega arith) (omega arith), cover.rising t (omega arith))
  ]

  -- no slice ends past the last bit
  pub end_le_bits : (s : ℕ) → s < length c.ends → end_of c s ≤ c.bits
  end_le_bits s within = omega (arith, end_le_start s (length c.ends) within (omega arith), cover.whole)

  slice_below : (n b : ℕ) → n ≤ length c.ends → b < start_of c n → (s : ℕ) × (s < length c.ends) × (start_of c s ≤ b) × (b < end_of c s)
  slice_below zero b within below = absurd (omega arith)
  slice_below (suc n) b within below = elim (cases_lt b (start_of c n)) [
    | inl earlier ↦ slice_below n b (omega arith) earlier
    | inr here ↦ (n, omega arith, here, below)
  ]

  -- each bit is in a slice
  pub slice_of_bit : (b : ℕ) → b < c.bits → (s : ℕ) × (s < length c.ends) × (start_of c s ≤ b) × (b < end_of c s)
  slice_of_bit b below = slice_below (length c.ends) b (omega arith) (omega (arith, cover.whole))

  -- and in no other
  pub same_slice : (b s t : ℕ) → s < length c.ends → t < length c.ends → start_of c s ≤ b → b < end_of c s → start_of c t ≤ b → b < end_of c t → s ≡ t
  same_slice b s t s_within t_within s_low s_high t_low t_high = elim (cases_order s t) [
    | inl same ↦ same
    | inr apart ↦ elim apart [
      | inl below ↦ absurd (omega (arith, end_le_start s t below (omega arith)))
      | inr above ↦ absurd (omega (arith, end_le_start t s above (omega arith)))
    ]
  ]

-- ---- an even cut
-- the slices of one width reach the end, and none of them lies past it
pub even_slices_reach : (c : Slices) (bits width : ℕ) → IsEvenCut c bits width → bits ≤ length c.ends * width
even_slices_reach c bits width even =
    reach (length c.ends) (omega arith) (even.cover.whole ∙ even.universe)
  where
    reach : (n : ℕ) → n ≤ length c.ends → start_of c n ≡ bits → bits ≤ n * width
    reach zero within is_end = omega (arith, is_end)
    reach (suc m) within is_end = omega (arith, is_end, even.ends m (omega arith))

pub even_slice_below : (c : Slices) (bits width : ℕ) → IsEvenCut c bits width → (s : ℕ) → s < length c.ends → s * width < bits
even_slice_below c bits width even s within = omega (arith, even.starts s within, even.ends s within, even.cover.rising s within)
