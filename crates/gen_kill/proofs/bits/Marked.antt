-- Numbers of what is marked, one after the other
use Rattle.std.proofs.Common.{◌≡◌, ◌+◌, ◌<◌, ℕ, Bool, true, false, List, [], ◌∷◌, ◌++◌, length, get_or, inl, inr, sym, ap, subst, ◌∙◌, arith}
use Rattle.std.proofs.Common.{length-append}
use Rattle.std.proofs.lemmas.Bool.{cases_lt}
use Rattle.std.proofs.Math.ListN.{get_or-append}
use Rattle.std.proofs.Math.Seq.{get_or-append_seam}
use Rattle.gen_kill.specs.Selections.{AreMarked}

module _ (numbers : List ℕ) (done : ℕ) where
  abbrev more : List ℕ
  more = numbers ++ done ∷ []

  count : length more ≡ length numbers + 1
  count = length-append numbers (done ∷ [])

  before : (k : ℕ) → k < length numbers → get_or more k 0 ≡ get_or numbers k 0
  before k low = get_or-append numbers (done ∷ []) 0 k low

  last : get_or more (length numbers) 0 ≡ done
  last = get_or-append_seam numbers done [] 0

  by_place : (P : ℕ → ℕ → Type 0) → ((k : ℕ) → k < length numbers → P k (get_or numbers k 0)) → P (length numbers) done
      → (k : ℕ) → k < length more → P k (get_or more k 0)
  by_place P each here k low = elim (cases_lt k (length numbers)) [
    | inl small ↦ subst (P k) (sym (before k small)) (each k small)
    | inr high ↦
        let same : length numbers ≡ k = omega (arith, count) in
        subst (λ n. P n (get_or more n 0)) same (subst (P (length numbers)) (sym last) here)
  ]

  module _ (marks : List Bool) (are : AreMarked marks done numbers) where
    pub marked_more : get_or marks done false ≡ true → AreMarked marks (done + 1) more
    marked_more is = record {
      below = by_place (λ k n. n < done + 1) (λ k low. omega (arith, are.below k low)) (omega arith);
      rising = λ i j less low. elim (cases_lt j (length numbers)) [
        | inl small ↦
            let one = before i (omega (arith, less, small)) in
            let other = before j small in
            let rise = are.rising i j less small in
            omega (arith, one, other, rise)
        | inr high ↦
            let small : i < length numbers = omega (arith, less, low, count) in
            let same : length numbers ≡ j = omega (arith, low, count, high) in
            let one = before i small in
            let under = are.below i small in
            let other : get_or more j 0 ≡ done = ap (λ n. get_or more n 0) (sym same) ∙ last in
            omega (arith, one, other, under)
      ];
      marked = by_place (λ k n. get_or marks n false ≡ true) are.marked is;
      all = λ number low marked. elim (cases_lt number done) [
        | inl small ↦
            let (k, there, same) = are.all number small marked in
            (k, omega (arith, there, count), before k there ∙ same)
        | inr high ↦
            let same : done ≡ number = omega (arith, low, high) in
            (length numbers, omega (arith, count), last ∙ same)
      ];
    }

    pub unmarked_more : get_or marks done false ≡ false → AreMarked marks (done + 1) numbers
    unmarked_more is = record {
      below = λ k low. omega (arith, are.below k low);
      rising = are.rising;
      marked = are.marked;
      all = λ number low marked. elim (cases_lt number done) [
        | inl small ↦ are.all number small marked
        | inr high ↦
            let same : number ≡ done = omega (arith, low, high) in
            absurd (cc (sym is ∙ (ap (λ n. get_or marks n false) (sym same) ∙ marked)))
      ];
    }

-- nothing is marked before the first
pub none_marked : (marks : List Bool) → AreMarked marks 0 []
none_marked marks = record {
  below = λ k low. absurd (omega (arith, low));
  rising = λ i j less low. absurd (omega (arith, low));
  marked = λ k low. absurd (omega (arith, low));
  all = λ number low marked. absurd (omega (arith, low));
}
