-- Places of marks that are made 0 again, mark by mark.
use Rattle.std.proofs.Common.{◌≡◌, ◌<◌, ◌≤◌, ◌+◌, inl, inr, ℕ, zero, suc, List, [], ◌∷◌, length, get_or, set, arith, refl, sym, ◌∙◌, ap, subst}
use Rattle.std.proofs.Common.{nat_eq, if◌then◌else◌}
use Rattle.std.proofs.Math.ListN.{length-set}
use Rattle.std.proofs.lemmas.Bool.{cases_eq}
use Rattle.std.proofs.lemmas.List.{get_or-set_same, get_or-set_other}
use Rattle.std.proofs.lemmas.List.Sums.{sum_by-cons}
use Rattle.flow_why.specs.code.Found.{IsIndexed, blank_places, point_at}
use Rattle.flow_why.specs.declared.mark.Mark.{Mark}
use Rattle.tac_program.specs.Limits.{most_points}
use Rattle.tac_program.specs.declared.limits.Limits.TheVariants.{Large}

-- a place that is not 0 is that of a mark from one on
pub record AreLeft (found : List Mark) (n : ℕ) (places : List ℕ) : Type 0 where
  pub left : (x i : ℕ) → x < length places → get_or places x 0 ≡ i + 1 → (i < length found) × (n ≤ i) × (point_at found i ≡ x)

module _ (found : List Mark) (n : ℕ) (places : List ℕ) (are : AreLeft found n places) (low : point_at found n < length places) where
  pub one_blanked : AreLeft found (n + 1) (set places (point_at found n) 0)
  one_blanked = record {
    left = λ x i within at. elim (cases_eq x (point_at found n)) [
      | inl same ↦
          let none : 0 ≡ i + 1 = sym (get_or-set_same places (point_at found n) 0 0 low)
          ∙ (ap (λ y. get_or (set places (point_at found n) 0) y 0) (sym same) ∙ at) in
          absurd (omega (arith, none))
      | inr other ↦
          let inside : x < length places = subst (λ m. x < m) (length-set places (point_at found n) 0) within in
          let before : get_or places x 0 ≡ i + 1 = sym (get_or-set_other places (point_at found n) x 0 0 other) ∙ at in
          let here = are.left x i inside before in (
            here.0,
            elim (cases_eq i n) [
              | inl first ↦ absurd (other (sym here.2 ∙ ap (point_at found) first))
              | inr later ↦ omega (arith, here.1, later)
            ],
            here.2,
          )
    ];
  }

-- behind the last mark all are 0
blank_of : (found : List Mark) (n : ℕ) (places : List ℕ) → AreLeft found n places → length found ≤ n → (x : ℕ) → x < length places → (value : ℕ)
    → get_or places x 0 ≡ value → get_or places x 0 ≡ 0
blank_of found n places are all x low zero is = is
blank_of found n places are all x low (suc i) is =
    let next : suc i ≡ i + 1 = omega arith in
    let here = are.left x i low (is ∙ next) in
    absurd (omega (arith, all, here.0, here.1))

pub all_blanked : (found : List Mark) (n : ℕ) (places : List ℕ) → AreLeft found n places → length found ≤ n → (x : ℕ) → x < length places
    → get_or places x 0 ≡ 0
all_blanked found n places are all x low = blank_of found n places are all x low (get_or places x 0) refl

-- as many are 0 as there are
pub all_blank : (places : List ℕ) → ((x : ℕ) → x < length places → get_or places x 0 ≡ 0) → blank_places places ≡ length places
all_blank [] none = refl
all_blank (place ∷ places) none =
    let first : place ≡ 0 = none 0 (omega arith) in
    let others : blank_places places ≡ length places = all_blank places (λ x low. none (suc x) (omega (arith, low))) in
    let one : blank_places (0 ∷ places) ≡ 1 + blank_places places = sum_by-cons (λ p. if nat_eq p 0 then 1 else 0) 0 places in
    ap (λ p. blank_places (p ∷ places)) first ∙ (one ∙ omega (arith, others))

-- no marks are left
pub none_indexed : (found : List Mark) (places : List ℕ) (taken : ℕ) (new : List ℕ) → IsIndexed found places taken → length new ≡ length places
    → ((x : ℕ) → x < length places → get_or new x 0 ≡ 0) → IsIndexed [] new 0
none_indexed found places taken new is count blank = record {
  few = subst (λ n. n ≤ most_points Large) (sym count) is.few;
  within = λ i low. absurd (omega (arith, low));
  placed = λ i low. absurd (omega (arith, low));
  marked = λ x i low at.
      let zero_place : get_or new x 0 ≡ 0 = blank x (subst (λ n. x < n) count low) in
      absurd (omega (arith, zero_place, at));
  room =
      let none : blank_places new ≡ length new = all_blank new (λ x low. blank x (subst (λ n. x < n) count low)) in
      omega (arith, none);
  up_to = omega arith;
}
