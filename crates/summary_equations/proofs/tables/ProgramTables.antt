-- The tables of a program's analyses are the least solutions of their may forms
use Rattle.std.proofs.Common.{◌≡◌, Bool, true, false, inl, inr, ◌⊎◌, ◌↔◌, refl}
use Rattle.flow_graph.specs.Analyses.{IsInTable, is_must}
use Rattle.flow_graph.specs.Problems.{may_shape, may_transfer}
use Rattle.flow_graph.proofs.graphs.GraphLaws.{may_forms_are_well_formed}
use Rattle.flow_graph.proofs.graphs.MayForms.{flags_are_may_forms, may_tables_are_may_forms, must_tables_are_may_forms}
use Rattle.summary_equations.specs.Equations.{IsInSolution}
use Rattle.summary_equations.specs.Laws.{FlagsAreSolutions, MayTablesAreSolutions, MustTablesAreSolutions, TablesAreDecided}
use Rattle.summary_equations.proofs.solutions.Decided.{solution_is_decided, either_iff}
use Rattle.summary_equations.proofs.paths.Meet.{solution_is_meet}

pub flags_are_solutions : FlagsAreSolutions
flags_are_solutions program analysis point sound =
    let meet = (solution_is_meet (may_shape program analysis) (may_transfer program analysis 0) point
    (may_forms_are_well_formed program analysis sound)).0 in
    let may = flags_are_may_forms program analysis point in
    (λ flag. may.1 (meet.0 flag), λ has. meet.1 (may.0 has))

pub may_tables_are_solutions : MayTablesAreSolutions
may_tables_are_solutions program analysis point bit sound is_may =
    let meet = (solution_is_meet (may_shape program analysis) (may_transfer program analysis bit) point
    (may_forms_are_well_formed program analysis sound)).1 in
    let may = may_tables_are_may_forms program analysis point bit is_may in
    (λ solved. may.1 (meet.0 solved), λ has. meet.1 (may.0 has))

pub must_tables_are_solutions : MustTablesAreSolutions
must_tables_are_solutions program analysis point bit sound must =
    let meet = (solution_is_meet (may_shape program analysis) (may_transfer program analysis bit) point
    (may_forms_are_well_formed program analysis sound)).1 in
    let may = must_tables_are_may_forms program analysis point bit must in
    (λ none. may.1 (λ has. none (meet.1 has)), λ every solved. may.0 every (meet.0 solved))

by_denial : {A B : Type 0} → (¬ A) ↔ B → A ⊎ (¬ A) → B ⊎ (¬ B)
by_denial same (inl a) = inr (λ b. same.1 b a)
by_denial same (inr none) = inl (same.0 none)

pub tables_are_decided : TablesAreDecided
tables_are_decided program analysis point bit sound =
    let decided = solution_is_decided (may_shape program analysis) (may_transfer program analysis bit) point in
    (either_iff (flags_are_solutions program analysis point sound) decided.0, by_kind (is_must analysis) refl decided.1)
  where
    by_kind : (b : Bool) → is_must analysis ≡ b
        → IsInSolution (may_shape program analysis) (may_transfer program analysis bit) point
        ⊎ (¬ (IsInSolution (may_shape program analysis) (may_transfer program analysis bit) point))
        → IsInTable program analysis point bit ⊎ (¬ (IsInTable program analysis point bit))
    by_kind true must decided = by_denial (must_tables_are_solutions program analysis point bit sound must) decided
    by_kind false may decided = either_iff (may_tables_are_solutions program analysis point bit sound may) decided
