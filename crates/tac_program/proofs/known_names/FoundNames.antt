-- The place at which a name is found.
use Rattle.std.proofs.Common.{◌≡◌, ℕ, zero, suc, ◌<◌, true, List, [], ◌∷◌, length, sym, ap, ◌∙◌, arith, Option, Some, is_some, position, bytes_eq}
use Rattle.std.proofs.Common.{slice_get, get_or, Contains}
use Rattle.std.proofs.lemmas.Bool.{or_left, or_right}
use Rattle.std.proofs.lemmas.List.Quantifiers.{position-Some}
use Rattle.std.proofs.lemmas.Option.{slice_get-get_or}
use Rattle.std.proofs.lemmas.Slice.Eq.{bytes_eq-Decides}
use Rattle.tac_program.specs.Names.{is_one_of}
use Rattle.tac_program.proofs.known_names.NameTexts.{numbered}

contained_known : (names : List (List ℕ)) (s : List ℕ) (k : ℕ) → k < length names → get_or names k s ≡ s → is_one_of s names ≡ true
contained_known [] s k l e = absurd (let never : ⊥ = omega (arith, l) in never)
contained_known (x ∷ xs) s zero l e = or_left (bytes_eq s x) (is_one_of s xs) ((bytes_eq-Decides s x).1 (sym e))
contained_known (x ∷ xs) s (suc k) l e = or_right (bytes_eq s x) (is_one_of s xs) (contained_known xs s k (omega (arith, l)) e)

module _ (names : List (List ℕ)) (s : List ℕ) (found : Option ℕ) (is : found ≡ position (bytes_eq s) names) where
  -- A name that is there is found.
  pub contained_found : Contains names s → is_some found ≡ true
  contained_found h = ap is_some is ∙ numbered s names ∙ contained_known names s h.0 h.1 h.2

  -- What is found is the name.
  pub found_named : (n : ℕ) → found ≡ Some n → slice_get names n ≡ Some s
  found_named n e =
      let at = position-Some (bytes_eq s) names n s (sym is ∙ e) in
      slice_get-get_or names n s at.0 ∙ ap (λ x. let o : Option (List ℕ) = Some x in o) (sym ((bytes_eq-Decides s (get_or names n s)).0 at.1))
