-- Marks by the places of their points
use Rattle.std.proofs.Common.{◌≡◌, ◌≢◌, ◌<◌, ◌≤◌, ◌+◌, ◌-◌, ◌↔◌, inl, inr, ℕ, true, not, nat_eq, List}
use Rattle.std.proofs.Common.{[], ◌∷◌, ◌++◌, length, get_or, set, arith, refl, sym, ◌∙◌, ap, subst}
use Rattle.std.proofs.Common.{if◌then◌else◌}
use Rattle.std.proofs.Math.ListN.{length-set, length-append}
use Rattle.std.proofs.Math.Seq.{get_or-append_seam}
use Rattle.std.proofs.lemmas.Bool.{cases_eq}
use Rattle.std.proofs.lemmas.List.{get_or_append_left, get_or-set_same, get_or-set_other}
use Rattle.std.proofs.lemmas.List.Sums.{sum_by-set}
use Rattle.flow_why.specs.code.Found.{IsBefore, IsIndexed, IsPlaceOf, IsPut, MarkList, blank_places, mark_at, point_at}
use Rattle.flow_why.specs.declared.mark.Mark.{Mark}
use Rattle.flow_why.specs.declared.mark.Reason.TheVariants.{Beginning}
use Rattle.tac_program.specs.Limits.{most_points}
use Rattle.tac_program.specs.declared.limits.Limits.TheVariants.{Large}

abbrev none : Mark
none = record { point = 0; reason = Beginning }

not_zero : (n : ℕ) → not (nat_eq n 0) ≡ true → n ≢ 0
not_zero n test same = absurd (grind arith)

zero_test : (n : ℕ) → n ≢ 0 → not (nat_eq n 0) ≡ true
zero_test n other = grind arith

module _ (found : List Mark) (places : List ℕ) (taken : ℕ) (is : IsIndexed found places taken) where
  -- a point with a place is marked
  there : (x : ℕ) → x < length places → get_or places x 0 ≢ 0 → (get_or places x 0 - 1 < length found) × (point_at found (get_or places x 0 - 1) ≡ x)
  there x low placed = is.marked x (get_or places x 0 - 1) low (omega arith)

  pub marked_there : (x : ℕ) → x < length places → get_or places x 0 ≢ 0 → IsBefore found (length found) x
  marked_there x low placed = let here = there x low placed in (get_or places x 0 - 1, here.0, here.1)

  -- a marked point has one
  at_place : (i x : ℕ) → i < length found → point_at found i ≡ x → get_or places x 0 ≡ i + 1
  at_place i x within at = ap (λ y. get_or places y 0) (sym at) ∙ is.placed i within

  pub unmarked : (x : ℕ) → get_or places x 0 ≡ 0 → IsBefore found (length found) x → ⊥
  unmarked x zero_place before =
      let e = at_place before.0 x before.1 before.2 in
      absurd (omega (arith, e))

  pub has_of : (x : ℕ) → x < length places → (not (nat_eq (get_or places x 0) 0) ≡ true) ↔ IsBefore found (length found) x
  has_of x low = (
    (λ test. marked_there x low (not_zero (get_or places x 0) test)),
    λ before. zero_test (get_or places x 0) (λ zero_place. unmarked x zero_place before),
  )

  pub place_of : (x place : ℕ) → x < length places → get_or places x 0 ≡ place → place ≢ 0
      → IsPlaceOf (record { points = length places; found = found; taken = taken }) x (place - 1)
  place_of x place low same other =
      let here = there x low (λ zero_place. other (sym same ∙ zero_place)) in record {
        within = subst (λ p. p - 1 < length found) same here.0;
        there = subst (λ p. point_at found (p - 1) ≡ x) same here.1;
        only = λ j within at. let e = at_place j x within at in omega (arith, e, same);
      }

  -- one more mark, of a point without a place
  module _ (mark : Mark) (low : mark.point < length places) (blank : get_or places mark.point 0 ≡ 0) where
    last : mark_at (found ++ mark ∷ []) (length found) ≡ mark
    last = get_or-append_seam found mark [] none

    kept : (i : ℕ) → i < length found → mark_at (found ++ mark ∷ []) i ≡ mark_at found i
    kept i within = get_or_append_left found (mark ∷ []) none i within

    grown : length (found ++ mark ∷ []) ≡ length found + 1
    grown = length-append found (mark ∷ [])

    -- a point that was marked is another one
    apart : (i : ℕ) → i < length found → point_at found i ≢ mark.point
    apart i within same = let e = at_place i mark.point within same in absurd (omega (arith, e, blank))

    -- a fact of each mark
    each_more : (P : ℕ → Mark → Type 0) → ((i : ℕ) → i < length found → P i (mark_at found i)) → P (length found) mark
        → (i : ℕ) → i < length (found ++ mark ∷ []) → P i (mark_at (found ++ mark ∷ []) i)
    each_more P before here i within = elim (cases_eq i (length found)) [
      | inl same ↦ subst (λ n. P n (mark_at (found ++ mark ∷ []) n)) (sym same) (subst (P (length found)) (sym last) here)
      | inr other ↦
          let low : i < length found = omega (arith, within, grown) in
          subst (P i) (sym (kept i low)) (before i low)
    ]

    room_more : length (found ++ mark ∷ []) + blank_places (set places mark.point (length found + 1)) ≡ length (set places mark.point
        (length found + 1))
    room_more =
        let weight : ℕ → ℕ = λ place. if nat_eq place 0 then 1 else 0 in
        let moved : blank_places (set places mark.point (length found + 1)) + weight (get_or places mark.point 0)
        ≡ blank_places places + weight (length found + 1) = sum_by-set weight places mark.point (length found + 1) 0 low in
        let one : weight (get_or places mark.point 0) ≡ 1 = ap weight blank in
        let none_left : weight (length found + 1) ≡ 0 = grind arith in
        omega (arith, moved, one, none_left, grown, is.room, length-set places mark.point (length found + 1))

    marked_more : (x i : ℕ) → x < length (set places mark.point (length found + 1)) → get_or (set places mark.point (length found + 1)) x 0 ≡ i + 1
        → (i < length (found ++ mark ∷ [])) × (point_at (found ++ mark ∷ []) i ≡ x)
    marked_more x i within at = elim (cases_eq x mark.point) [
      | inl same ↦
          let here : length found + 1 ≡ i + 1 = sym (get_or-set_same places mark.point (length found + 1) 0 low)
          ∙ (ap (λ y. get_or (set places mark.point (length found + 1)) y 0) (sym same) ∙ at) in
          let place : i ≡ length found = omega (arith, here) in (
            omega (arith, place, grown),
            ap (λ n. point_at (found ++ mark ∷ []) n) place ∙ (ap (λ (m : Mark). m.point) last ∙ sym same),
          )
      | inr other ↦
          let old = is.marked x i (omega (arith, within, length-set places mark.point (length found + 1)))
          (sym (get_or-set_other places mark.point x (length found + 1) 0 other) ∙ at) in
          (omega (arith, old.0, grown), ap (λ (m : Mark). m.point) (kept i old.0) ∙ old.1)
    ]

    pub indexed_more : IsIndexed (found ++ mark ∷ []) (set places mark.point (length found + 1)) taken
    indexed_more = record {
      few = subst (λ n. n ≤ most_points Large) (sym (length-set places mark.point (length found + 1))) is.few;
      within = each_more (λ i m. m.point < length (set places mark.point (length found + 1)))
          (λ i below. subst (λ n. point_at found i < n) (sym (length-set places mark.point (length found + 1))) (is.within i below))
          (subst (λ n. mark.point < n) (sym (length-set places mark.point (length found + 1))) low);
      placed = each_more (λ i m. get_or (set places mark.point (length found + 1)) m.point 0 ≡ i + 1)
          (λ i below. get_or-set_other places mark.point (point_at found i) (length found + 1) 0 (apart i below) ∙ is.placed i below)
          (get_or-set_same places mark.point (length found + 1) 0 low);
      marked = marked_more;
      room = room_more;
      up_to = omega (arith, is.up_to, grown);
    }

pub put_nothing : (old : MarkList) (mark : Mark) → IsBefore old.found (length old.found) mark.point → IsPut old mark old
put_nothing old mark before = record { points = refl; taken = refl; found = inl (before, refl) }
