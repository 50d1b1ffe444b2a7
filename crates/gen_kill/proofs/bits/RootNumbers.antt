-- The number of the procedure `main`
use Rattle.std.proofs.Common.{◌≡◌, ℕ, ◌<◌, ◌≤◌, ◌⊎◌, true, false, List, Option, Some, None, option_map, slice_get, unwrap_or, position, bytes_eq, inl}
use Rattle.std.proofs.Common.{inr, refl, sym, ap, ◌∙◌, arith}
use Rattle.std.proofs.lemmas.Bool.{cases_lt}
use Rattle.std.proofs.lemmas.Option.{get_or_from_slice_get, slice_get_within}
use Rattle.std.proofs.lemmas.Slice.Eq.{bytes_eq-Decides}
use Rattle.tac_program.specs.Programs.{number_of}
use Rattle.tac_program.specs.Sound.{AllDiffer}
use Rattle.gen_kill.specs.code.Effects.{marks}
use Rattle.gen_kill.proofs.bits.OwnBits.{is_at, is_at-position, passing}

-- a name that differs from all others is found where it stands
module _ (names : List (List ℕ)) (differ : AllDiffer names) (s : List ℕ) where
  never_before : (i j : ℕ) → slice_get names i ≡ Some s → slice_get names j ≡ Some s → i < j → ⊥
  never_before i j at_i at_j before =
      differ i j s before (slice_get_within names j s at_j) (get_or_from_slice_get names i s s at_i ∙ sym (get_or_from_slice_get names j s s at_j))

  one_place : (i j : ℕ) → slice_get names i ≡ Some s → slice_get names j ≡ Some s → i ≡ j
  one_place i j at_i at_j = by_order (cases_lt i j) (cases_lt j i)
    where
      by_order : (i < j) ⊎ (j ≤ i) → (j < i) ⊎ (i ≤ j) → i ≡ j
      by_order (inl before) other = absurd (never_before i j at_i at_j before)
      by_order (inr behind) (inl before) = absurd (never_before j i at_j at_i before)
      by_order (inr p) (inr q) = omega arith

  named : (i : ℕ) → is_at (bytes_eq s) names i ≡ true → slice_get names i ≡ Some s
  named i is =
      let (x, at, same) = passing (bytes_eq s) (slice_get names i) is in
      at ∙ ap (λ y. let o : Option (List ℕ) = Some y in o) (sym ((bytes_eq-Decides s x).0 same))

  pub number_found : (n : ℕ) → slice_get names n ≡ Some s → n ≡ number_of names s
  number_found n at =
      by_position (position (bytes_eq s) names) (sym (is_at-position (bytes_eq s) names (λ i j p q. one_place i j (named i p) (named j q)) n) ∙ here)
    where
      here : is_at (bytes_eq s) names n ≡ true
      here = ap (λ o. unwrap_or (option_map (bytes_eq s) o) false) at ∙ (bytes_eq-Decides s s).1 refl

      by_position : (found : Option ℕ) → marks found n ≡ true → n ≡ unwrap_or found 0
      by_position None is = absurd (cc is)
      by_position (Some m) is = grind arith
