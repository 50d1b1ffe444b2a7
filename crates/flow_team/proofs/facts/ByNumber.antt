-- Lists with something for each analysis, at its number.
use Rattle.std.proofs.Common.{◌≡◌, ◌∙◌, ℕ, ◌+◌, ◌<◌, List, [], ◌∷◌, ◌++◌, Some, length, slice_get, get_or, refl, sym, ap, subst, arith}
use native.Mathlib.Decide.{ℕ_discrete}
use mathlib.Core.Logic.{dite}
use Rattle.std.proofs.Math.ListN.{get_or-append}
use Rattle.std.proofs.lemmas.List.{get_or_push}
use Rattle.std.proofs.lemmas.Option.{get_or_from_slice_get, slice_get-get_or}
use Rattle.flow_graph.specs.AnalysisNumbers.{analysis_number}
use Rattle.flow_graph.specs.declared.analysis.Analysis.{Analysis}
use Rattle.flow_graph.specs.declared.analysis.Analysis.TheVariants.{Reach, Live, Avail, Busy}
use Rattle.flow_graph.specs.declared.analysis.TheConstants.Analysis as all

-- an analysis stands at its number
at_number : (analysis : Analysis) → slice_get all.ALL (analysis_number analysis) ≡ Some analysis
at_number Reach = refl
at_number Live = refl
at_number Avail = refl
at_number Busy = refl

pub number_below : (analysis : Analysis) → analysis_number analysis < 4
number_below Reach = omega arith
number_below Live = omega arith
number_below Avail = omega arith
number_below Busy = omega arith

-- what holds of each, and of one more
pub by_number_more : {A : Type 0} (Holds : Analysis → A → Type 0) (xs : List A) (x : A) (i : ℕ) (d : Analysis) → length xs ≡ i
    → Holds (get_or all.ALL i d) x
    → ((analysis : Analysis) (y : A) → analysis_number analysis < i → slice_get xs (analysis_number analysis) ≡ Some y → Holds analysis y)
    → (analysis : Analysis) (y : A) → analysis_number analysis < i + 1 → slice_get (xs ++ x ∷ []) (analysis_number analysis) ≡ Some y → Holds analysis y
by_number_more Holds xs x i d size here before analysis y below there =
    let n : ℕ = analysis_number analysis in
    let read : get_or (xs ++ x ∷ []) n y ≡ y = get_or_from_slice_get (xs ++ x ∷ []) n y y there in
    dite (ℕ_discrete n i)
    (λ same.
    let new : x ≡ y = sym (get_or_push xs x y n (size ∙ sym same)) ∙ read in
    let is : get_or all.ALL i d ≡ analysis = ap (λ m. get_or all.ALL m d) (sym same) ∙ get_or_from_slice_get all.ALL n analysis d (at_number analysis) in
    subst (Holds analysis) new (subst (λ (a : Analysis). Holds a x) is here))
    (λ other.
    let earlier : n < i = omega (arith, below, other) in
    let within : n < length xs = omega (arith, earlier, size) in
    before analysis y earlier (slice_get-get_or xs n y within ∙ ap Some (sym (get_or-append xs (x ∷ []) y n within) ∙ read)))
