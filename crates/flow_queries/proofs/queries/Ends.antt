-- Where slices of queries end.
use Rattle.std.proofs.Common.{◌≡◌, ◌∙◌, ◌⊎◌, ◌+◌, ◌*◌, ◌/◌, ◌<◌, ◌≤◌, ℕ, zero, suc, List, [], ◌∷◌, ◌++◌, Some, length, slice_index, inl, inr}
use Rattle.std.proofs.Common.{arith, ap, sym, subst, get_or, refl, cond, Bool, false}
use mathlib.Core.Logic.{dite}
use native.Mathlib.Decide.{ℕ_discrete}
use Rattle.std.proofs.lemmas.Bool.{cases_eq, cases_lt, ne_eqb}
use Rattle.std.proofs.lemmas.List.{get_or_append_left, get_or_push, length_push}
use Rattle.std.proofs.lemmas.Option.{slice_get-get_or}
use Rattle.bit_rows.proofs.slices.Cuts.{end_le_bits}
use Rattle.bit_rows.specs.Slices.{CoverBits, Slices, cut_at, end_of, start_of}
use Rattle.flow_queries.specs.code.Boards.{no_query}
use Rattle.flow_queries.specs.code.Cuts.{AreAlike, AreApart, EndTo, IsEnd}
use Rattle.flow_queries.specs.declared.query.Query.{Query}

pub none_end : (order : List Query) (count : ℕ) → EndTo order count 1 []
none_end order count = record {
  places = record {
    rising = λ j k before there. absurd (omega (arith, there));
    positive = λ k there. absurd (omega (arith, there));
    below = λ k there. absurd (omega (arith, there));
  };
  whole = λ k there. absurd (omega (arith, there));
  highest = λ k there. absurd (omega (arith, there));
  each = λ i j next low. absurd (omega (arith, next, low));
}

-- of no queries none
pub no_ends : (order : List Query) (ends : List ℕ) → length order ≡ 0 → ends ≡ [] → EndTo order (length order) (length order) ends
no_ends order ends none empty = subst (EndTo order (length order) (length order)) (sym empty) (record {
  places = record {
    rising = λ j k before there. absurd (omega (arith, there));
    positive = λ k there. absurd (omega (arith, there));
    below = λ k there. absurd (omega (arith, there));
  };
  whole = λ k there. absurd (omega (arith, there));
  highest = λ k there. absurd (omega (arith, there));
  each = λ i j next low. absurd (omega (arith, next, low, none));
})

module _ (order : List Query) (count done : ℕ) (ends : List ℕ) (before : EndTo order count done ends) where
  -- no slice ends before a query that is like the one before it
  pub no_more_end : (last : ℕ) → done ≡ last + 1 → AreAlike order last done → EndTo order count (done + 1) ends
  no_more_end last next alike = record {
    places = before.places;
    whole = before.whole;
    highest = λ k there. omega (arith, before.highest k there);
    each = λ i j follows low. dite (ℕ_discrete j done)
        (λ same.
        let first : last ≡ i = omega (arith, next, follows, same) in
        inl (subst (λ (n : ℕ). AreAlike order n j) first (subst (AreAlike order last) (sym same) alike)))
        (λ apart. before.each i j follows (omega (arith, low, apart)));
  }

  -- one slice more ends
  pub one_more_end : 0 < done → done < count → EndTo order count (done + 1) (ends ++ 64 * done ∷ [])
  one_more_end some inside = record {
    places = record {
      rising = λ j k less there. elim (cases_lt k (length ends)) [
        | inl low ↦ omega (arith, old j (omega (arith, less, low)), old k low, before.places.rising j k less low)
        | inr high ↦
            let first : j < length ends = omega (arith, less, there, high, length_push ends (64 * done)) in
            omega (arith, old j first, new k there high, before.highest j first)
      ];
      positive = λ k there. elim (cases_lt k (length ends)) [
        | inl low ↦ omega (arith, old k low, before.places.positive k low)
        | inr high ↦ omega (arith, new k there high, some)
      ];
      below = λ k there. elim (cases_lt k (length ends)) [
        | inl low ↦ omega (arith, old k low, before.places.below k low)
        | inr high ↦ omega (arith, new k there high, inside)
      ];
    };
    whole = λ k there. elim (cases_lt k (length ends)) [
      | inl low ↦ omega (arith, old k low, before.whole k low)
      | inr high ↦ omega (arith, new k there high)
    ];
    highest = λ k there. elim (cases_lt k (length ends)) [
      | inl low ↦ omega (arith, old k low, before.highest k low)
      | inr high ↦ omega (arith, new k there high)
    ];
    each = λ i j follows low. dite (ℕ_discrete j done)
        (λ same. inr (length ends, omega (arith, length_push ends (64 * done)), get_or_push ends (64 * done) 0 (length ends) refl ∙ ap (λ (n : ℕ). 64 * n) (sym same)))
        (λ apart. still j (before.each i j follows (omega (arith, low, apart))));
  } where
    old : (k : ℕ) → k < length ends → slice_index (ends ++ 64 * done ∷ []) k ≡ slice_index ends k
    old k there = get_or_append_left ends (64 * done ∷ []) 0 k there

    new : (k : ℕ) → k < length (ends ++ 64 * done ∷ []) → length ends ≤ k → slice_index (ends ++ 64 * done ∷ []) k ≡ 64 * done
    new k there behind = get_or_push ends (64 * done) 0 k (omega (arith, there, behind, length_push ends (64 * done)))

    still : {A : Type 0} → (j : ℕ) → (A ⊎ (IsEnd ends (64 * j))) → A ⊎ (IsEnd (ends ++ 64 * done ∷ []) (64 * j))
    still j (inl alike) = inl alike
    still j (inr end) = inr (end.0, omega (arith, end.1, length_push ends (64 * done)), old end.0 end.1 ∙ end.2)

  -- where all queries were seen
  pub all_ends : count ≤ done → EndTo order count count ends
  all_ends seen = record {
    places = before.places;
    whole = before.whole;
    highest = before.places.below;
    each = λ i j follows low. before.each i j follows (omega (arith, low, seen));
  }

-- a query is like itself
alike_self : (order : List Query) (i : ℕ) → AreAlike order i i
alike_self order i one other here there =
    let both : Some one ≡ Some other = sym here ∙ there in
    let same : one ≡ other = cc both in
    ap (λ (query : Query). query.analysis) same

alike_through : (order : List Query) (i j k : ℕ) → j < length order → AreAlike order i j → AreAlike order j k → AreAlike order i k
alike_through order i j k inside first second one other here there =
    let middle = slice_get-get_or order j no_query inside in
    first one (get_or order j no_query) here middle ∙ second (get_or order j no_query) other middle there

module _ (c : Slices) (cover : CoverBits c) where
  ends_rise : (j k : ℕ) → j ≤ k → k < length c.ends → slice_index c.ends j ≤ slice_index c.ends k
  ends_rise j zero low there = let same : j ≡ 0 = omega (arith, low) in omega (arith, ap (slice_index c.ends) same)
  ends_rise j (suc k) low there = dite (ℕ_discrete j (suc k))
      (λ same. omega (arith, ap (slice_index c.ends) same))
      (λ apart. omega (arith, ends_rise j k (omega (arith, low, apart)) (omega (arith, there)), cover.rising (suc k) there))

  -- no slice ends within another
  none_within : (s k place : ℕ) → s < length c.ends → k < length c.ends → slice_index c.ends k ≡ place → start_of c s < place
      → place < end_of c s → ⊥
  none_within zero k place there inside is low high = omega (arith, is, high, ends_rise 0 k (omega arith) inside)
  none_within (suc s) k place there inside is low high = elim (cases_lt k (suc s)) [
    | inl before ↦ omega (arith, is, low, ends_rise k s (omega (arith, before)) (omega (arith, there)))
    | inr after ↦ omega (arith, is, high, ends_rise (suc s) k after inside)
  ]

-- slices that end between queries that are not alike have queries of one analysis
module _ (order : List Query) (c : Slices) (cover : CoverBits c)
    (whole : (k : ℕ) → k < length c.ends → slice_index c.ends k ≡ 64 * (slice_index c.ends k / 64))
    (bits : c.bits ≡ 64 * length order)
    (each : (i j : ℕ) → j ≡ i + 1 → j < length order → (AreAlike order i j) ⊎ (IsEnd c.ends (64 * j))) where
  whole_start : (s : ℕ) → s < length c.ends → start_of c s ≡ 64 * (start_of c s / 64)
  whole_start zero there = omega arith
  whole_start (suc s) there = whole s (omega (arith, there))

  next_alike : (s i : ℕ) → s < length c.ends → start_of c s / 64 ≤ i → suc i < (end_of c s + 63) / 64 → AreAlike order i (suc i)
  next_alike s i there low high = by_end (each i (suc i) (omega arith) (omega (arith, high, bits, end_le_bits c cover s there, whole s there))) where
    by_end : (AreAlike order i (suc i)) ⊎ (IsEnd c.ends (64 * suc i)) → AreAlike order i (suc i)
    by_end (inl alike) = alike
    by_end (inr end) = absurd (none_within c cover s end.0 (64 * suc i) there end.1 end.2 (omega (arith, low, whole_start s there))
        (omega (arith, high, whole s there)))

  pub queries_apart : AreApart order c
  queries_apart s zero there low high =
      let same : start_of c s / 64 ≡ 0 = omega (arith, low) in
      subst (AreAlike order (start_of c s / 64)) same (alike_self order (start_of c s / 64))
  queries_apart s (suc j) there low high = dite (ℕ_discrete (start_of c s / 64) (suc j))
      (λ same. subst (AreAlike order (start_of c s / 64)) same (alike_self order (start_of c s / 64)))
      (λ apart.
      alike_through order (start_of c s / 64) j (suc j) (omega (arith, high, bits, end_le_bits c cover s there, whole s there))
      (queries_apart s j there (omega (arith, low, apart)) (omega (arith, high)))
      (next_alike s j there (omega (arith, low, apart)) high))

-- so have those of a cut at all such places
pub cut_apart : (order : List Query) (ends : List ℕ) → EndTo order (length order) (length order) ends → CoverBits (cut_at (64 * length order) ends)
    → AreApart order (cut_at (64 * length order) ends)
cut_apart order ends to cover = by_bits (cases_eq (64 * length order) 0) where
  make : Bool → Slices
  make test = record { bits = 64 * length order; ends = ends ++ cond test [] (64 * length order ∷ []) }

  last : (k : ℕ) → k < length (ends ++ 64 * length order ∷ []) → length ends ≤ k
      → slice_index (ends ++ 64 * length order ∷ []) k ≡ 64 * length order
  last k there behind = get_or_push ends (64 * length order) 0 k (omega (arith, there, behind, length_push ends (64 * length order)))

  whole : (k : ℕ) → k < length (ends ++ 64 * length order ∷ [])
      → slice_index (ends ++ 64 * length order ∷ []) k ≡ 64 * (slice_index (ends ++ 64 * length order ∷ []) k / 64)
  whole k there = elim (cases_lt k (length ends)) [
    | inl low ↦ omega (arith, get_or_append_left ends (64 * length order ∷ []) 0 k low, to.whole k low)
    | inr high ↦ omega (arith, last k there high)
  ]

  among : {A : Type 0} → (j : ℕ) → (A ⊎ (IsEnd ends (64 * j))) → A ⊎ (IsEnd (ends ++ 64 * length order ∷ []) (64 * j))
  among j (inl alike) = inl alike
  among j (inr end) = inr (
    end.0,
    omega (arith, end.1, length_push ends (64 * length order)),
    get_or_append_left ends (64 * length order ∷ []) 0 end.0 end.1 ∙ end.2,
  )

  by_bits : (64 * length order ≡ 0) ⊎ (64 * length order ≡ 0 → ⊥) → AreApart order (cut_at (64 * length order) ends)
  by_bits (inl none) = λ s j there low high.
      absurd (omega (arith, cover.rising s there, end_le_bits (cut_at (64 * length order) ends) cover s there, none))
  by_bits (inr some) =
      let is = ap make (ne_eqb (64 * length order) 0 some) in
      subst (AreApart order) (sym is)
      (queries_apart order (make false) (subst CoverBits is cover) whole refl (λ i j follows low. among j (to.each i j follows low)))
