-- Lists of all numbers of a kind, made one after the other
use Rattle.std.proofs.Common.{◌≡◌, ◌<◌, ◌+◌, ◌↔◌, ℕ, Bool, true, false, List, [], ◌∷◌, ◌++◌, Contains, inl, inr, length, get_or, arith}
use Rattle.std.proofs.Common.{if◌then◌else◌, refl, sym, ◌∙◌, ap, subst}
use Rattle.std.proofs.Math.ListN.{length-append}
use Rattle.std.proofs.Math.Seq.{get_or-append_seam}
use Rattle.std.proofs.lemmas.Bool.{cases_eq}
use Rattle.std.proofs.lemmas.List.{get_or_append_left}
use Rattle.std.proofs.lemmas.List.Elements.{Contains-append_cases, Contains-append_left, Contains-append_right, Contains-get_or}
use Rattle.flow_graph.proofs.lists.Membership.{Contains-first, Contains-nil, Contains-one}
use Rattle.flow_reasons.specs.Lists.{AreAll}
use Rattle.flow_reasons.specs.code.Marks.{AreAllBelow, AreMarks}

pub none_below : (kind : ℕ → Type 0) → AreAllBelow kind 0 []
none_below kind = record {
  rising = λ i j before within. absurd (omega (arith, within));
  below = λ n at. absurd (Contains-nil n at);
  all = λ n low is. absurd (omega (arith, low));
}

module _ (kind : ℕ → Type 0) (n : ℕ) (old : List ℕ) (are : AreAllBelow kind n old) where
  -- one number more, which is not of the kind
  pub not_here : (kind n → ⊥) → AreAllBelow kind (n + 1) old
  not_here none = record {
    rising = are.rising;
    below = λ m at. let is = are.below m at in (omega (arith, is.0), is.1);
    all = λ m low is. elim (cases_eq m n) [
      | inl same ↦ absurd (none (subst kind same is))
      | inr other ↦ are.all m (omega (arith, low, other)) is
    ];
  }

  rises : (i j : ℕ) → i < j → j < length (old ++ n ∷ []) → get_or (old ++ n ∷ []) i 0 < get_or (old ++ n ∷ []) j 0
  rises i j before within =
      let long : length (old ++ n ∷ []) ≡ length old + 1 = length-append old (n ∷ []) in
      elim (cases_eq j (length old)) [
        | inl same ↦
            let low : i < length old = omega (arith, before, same) in
            let first : get_or (old ++ n ∷ []) i 0 ≡ get_or old i 0 = get_or_append_left old (n ∷ []) 0 i low in
            let last : get_or (old ++ n ∷ []) j 0 ≡ n = ap (λ k. get_or (old ++ n ∷ []) k 0) same ∙ get_or-append_seam old n [] 0 in
            let below = (are.below (get_or old i 0) (Contains-get_or old i 0 low)).0 in
            omega (arith, first, last, below)
        | inr other ↦
            let low : j < length old = omega (arith, within, long, other) in
            let first : get_or (old ++ n ∷ []) i 0 ≡ get_or old i 0 = get_or_append_left old (n ∷ []) 0 i (omega (arith, before, low)) in
            let second : get_or (old ++ n ∷ []) j 0 ≡ get_or old j 0 = get_or_append_left old (n ∷ []) 0 j low in
            let risen = are.rising i j before low in
            omega (arith, first, second, risen)
      ]

  here : kind n → AreAllBelow kind (n + 1) (old ++ n ∷ [])
  here is = record {
    rising = rises;
    below = λ m at. elim (Contains-append_cases old (n ∷ []) m at) [
      | inl before ↦ (let known = are.below m before in (omega (arith, known.0), known.1))
      | inr last ↦ (let same = Contains-one n m last in (omega (arith, same), subst kind (sym same) is))
    ];
    all = λ m low kind_is. elim (cases_eq m n) [
      | inl same ↦ Contains-append_right old (n ∷ []) m (subst (Contains (n ∷ [])) (sym same) (Contains-first n []))
      | inr other ↦ Contains-append_left old (n ∷ []) m (are.all m (omega (arith, low, other)) kind_is)
    ];
  }

  -- one number more, which is put last where it is of the kind
  pub one_step : (has : Bool) (new : List ℕ) → (has ≡ true) ↔ kind n → new ≡ (if has then old ++ n ∷ [] else old) → AreAllBelow kind (n + 1) new
  one_step true new tells same = subst (AreAllBelow kind (n + 1)) (sym same) (here (tells.0 refl))
  one_step false new tells same = subst (AreAllBelow kind (n + 1)) (sym same) (not_here (λ is. absurd (cc (tells.1 is))))

pub all_of : (kind : ℕ → Type 0) (n : ℕ) (list : List ℕ) → AreAllBelow kind n list → ((m : ℕ) → kind m → m < n) → AreAll kind list
all_of kind n list are within = record { rising = are.rising; listed = λ m. (λ at. (are.below m at).1, λ is. are.all m (within m is) is) }

-- another kind that is the same
pub all_as : (first second : ℕ → Type 0) (list : List ℕ) → ((m : ℕ) → first m ↔ second m) → AreAll first list → AreAll second list
all_as first second list same are = record {
  rising = are.rising;
  listed = λ m. (λ at. (same m).0 ((are.listed m).0 at), λ is. (are.listed m).1 ((same m).1 is));
}

-- one mark more
pub one_mark : (n : ℕ) (of : ℕ → Bool) (old : List Bool) (mark : Bool) (new : List Bool) → AreMarks n of old → mark ≡ of n → new ≡ old ++ mark ∷ []
    → AreMarks (n + 1) of new
one_mark n of old mark new are is same = subst (AreMarks (n + 1) of) (sym same) (record {
  count = omega (arith, length-append old (mark ∷ []), are.count);
  each = λ x low. elim (cases_eq x n) [
    | inl here ↦
        ap (λ k. get_or (old ++ mark ∷ []) k false) (here ∙ sym are.count) ∙ get_or-append_seam old mark [] false ∙ is ∙ ap of (sym here)
    | inr other ↦ get_or_append_left old (mark ∷ []) false x (omega (arith, low, other, are.count)) ∙ are.each x (omega (arith, low, other))
  ];
})
