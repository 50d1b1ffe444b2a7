-- Lists with something for each analysis of a direction, in their order.
use Rattle.std.proofs.Common.{◌≡◌, ◌∙◌, ℕ, ◌+◌, ◌<◌, ◌≤◌, Bool, List, [], ◌∷◌, ◌++◌, Some, length, slice_get, get_or, refl, sym, ap, arith, length-append}
use native.Mathlib.Decide.{ℕ_discrete}
use mathlib.Core.Logic.{dite}
use Rattle.std.proofs.Math.ListN.{get_or-append}
use Rattle.std.proofs.lemmas.List.{get_or_push}
use Rattle.std.proofs.lemmas.Option.{get_or_from_slice_get, slice_get-get_or, slice_get_within}
use Rattle.flow_graph.specs.Analyses.{is_backward}
use Rattle.flow_graph.specs.Directions.{goes_backward}
use Rattle.flow_graph.specs.declared.analysis.Analysis.{Analysis}
use Rattle.flow_graph.specs.declared.analysis.Analysis.TheVariants.{Reach, Live}
use Rattle.flow_graph.specs.declared.analysis.Direction.{Direction}
use Rattle.flow_graph.specs.declared.analysis.Direction.TheVariants.{Forward, Backward}
use Rattle.gen_kill.specs.Selections.{Selection}
use Rattle.flow_links.specs.Shapes.{LinkedProgram}
use Rattle.flow_queries.specs.code.Directions.{analyses_of, selection_of}
use Rattle.tac_program.specs.Programs.{Program}

-- what is made of each element, and of one more
pub one_more : {A B : Type 0} (make : A → B) (items : List A) (made : List B) (x : B) (i : ℕ) (d : A) → length made ≡ i → x ≡ make (get_or items i d)
    → ((k : ℕ) (a : A) → k < i → slice_get items k ≡ Some a → slice_get made k ≡ Some (make a))
    → (k : ℕ) (a : A) → k < i + 1 → slice_get items k ≡ Some a → slice_get (made ++ x ∷ []) k ≡ Some (make a)
one_more make items made x i d size is before k a below there =
    let longer : length (made ++ x ∷ []) ≡ length made + 1 = length-append made (x ∷ []) in
    dite (ℕ_discrete k i)
    (λ same.
    let read : get_or items i d ≡ a = ap (λ m. get_or items m d) (sym same) ∙ get_or_from_slice_get items k a d there in
    slice_get-get_or (made ++ x ∷ []) k x (omega (arith, same, size, longer))
    ∙ ap Some (get_or_push made x x k (size ∙ sym same) ∙ is ∙ ap make read))
    (λ other.
    let earlier : k < i = omega (arith, below, other) in
    let within : k < length made = omega (arith, earlier, size) in
    slice_get-get_or (made ++ x ∷ []) k x (omega (arith, within, longer))
    ∙ ap Some (get_or-append made (x ∷ []) x k within ∙ get_or_from_slice_get made k (make a) x (before k a earlier there)))

-- the first analysis of a direction
pub first_of : (direction : Direction)
    → (analysis : Analysis) × (slice_get (analyses_of (goes_backward direction)) 0 ≡ Some analysis) × (is_backward analysis ≡ goes_backward direction)
first_of Forward = (Reach, refl, refl)
first_of Backward = (Live, refl, refl)

-- the routes that are made of the first solver of a direction are the direction's
pub routes_known : (program : Program) (direction : Direction) (analyses : List Analysis) (solvers : List Selection) (i : ℕ) (problem : Selection)
    (routes : LinkedProgram) → analyses ≡ analyses_of (goes_backward direction) → length analyses ≤ i
    → ((k : ℕ) (a : Analysis) → k < i → slice_get analyses k ≡ Some a → slice_get solvers k ≡ Some (selection_of program a))
    → problem ≡ get_or solvers 0 problem
    → routes ≡ record { program = problem.program; backward = is_backward problem.analysis }
    → routes ≡ record { program = program; backward = goes_backward direction }
routes_known program direction analyses solvers i problem routes are all each read is =
    let first = first_of direction in
    let listed : slice_get analyses 0 ≡ Some first.0 = ap (λ (list : List Analysis). slice_get list 0) are ∙ first.1 in
    let some : 0 < length analyses = slice_get_within analyses 0 first.0 listed in
    let solver : problem ≡ selection_of program first.0 =
    read ∙ get_or_from_slice_get solvers 0 (selection_of program first.0) problem (each 0 first.0 (omega (arith, some, all)) listed) in
    is
    ∙ ap (λ (selection : Selection). let linked : LinkedProgram = record { program = selection.program; backward = is_backward selection.analysis } in linked) solver
    ∙ ap (λ (b : Bool). let linked : LinkedProgram = record { program = program; backward = b } in linked) first.2
