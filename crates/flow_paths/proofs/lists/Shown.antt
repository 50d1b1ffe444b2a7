-- The uses and the paths of what is shown
use Rattle.std.proofs.Common.{◌≡◌, ℕ, zero, suc, ◌+◌, ◌-◌, ◌<◌, ◌≤◌, List, [], Option, Some, None, length, refl, sym, subst, arith}
use Rattle.std.specs.Prelude.{All, Contains, IfSome}
use Rattle.std.specs.List.{range_with_len}
use Rattle.std.proofs.lemmas.List.Elements.{All-append, All-cons, All-contains, All-nil}
use Rattle.flow_graph.specs.Points.{end_place, entry_point, point_count}
use Rattle.flow_reports.specs.Uses.{unset_uses}
use Rattle.flow_reports.specs.code.Findings.{knowledge_of}
use Rattle.flow_reports.specs.declared.unset.UnsetUse.{UnsetUse}
use Rattle.flow_views.specs.Views.{end_shown, first_shown, points_in, shown_points}
use Rattle.flow_views.specs.code.ViewProgram.{AreShown, IsShownProcedure}
use Rattle.flow_views.specs.declared.view.Chosen.{Chosen}
use Rattle.flow_views.specs.declared.view.Look.{Look}
use Rattle.flow_views.specs.declared.view_program.ViewProgram.{ViewProgram}
use Rattle.flow_views.proofs.facts.Known.{all_of, all_of_is}
use Rattle.flow_views.proofs.facts.Tables.{ends_below, shown_within}
use Rattle.tac_program.specs.Programs.{Program}
use Rattle.flow_paths.specs.code.UnsetPaths.{ArePathsOf, AreWitnessesOf, IsUnsetUse, PathTable}
use Rattle.flow_paths.proofs.lists.Placed.{witness_found}
use Rattle.flow_paths.proofs.lists.Reaching.{all_of_range, use_is_told, uses_are}

-- the points that are shown are points of the program, from one on and before another
pub inside : (program : Program) (procedure : Option ℕ) → IfSome procedure (λ p. p < length program.procedures)
    → (first_shown program procedure ≤ end_shown program procedure) × (end_shown program procedure ≤ point_count program)
inside program None there = (omega arith, omega arith)
inside program (Some procedure) there = (omega arith, omega (arith, ends_below program procedure there))

-- and so is each of them
all_between : (low high a n : ℕ) → low ≤ a → a + n ≤ high → All (λ k. (low ≤ k) × (k < high)) (range_with_len a n)
all_between low high a zero from to = All-nil (λ k. (low ≤ k) × (k < high))
all_between low high a (suc n) from to =
    let here : (low ≤ a) × (a < high) = (from, omega (arith, to)) in
    All-cons (λ k. (low ≤ k) × (k < high)) a (range_with_len (a + 1) n) here
    (all_between low high (a + 1) n (omega (arith, from)) (omega (arith, to)))

all_points : (program : Program) (procedure : Option ℕ) (number : ℕ) → number < length program.procedures → IsShownProcedure procedure number
    → All (λ k. (first_shown program procedure ≤ k) × (k < end_shown program procedure)) (points_in program number)
all_points program procedure number there is =
    let bounds = shown_within program procedure number there is in
    all_between (first_shown program procedure) (end_shown program procedure) (entry_point program number) (suc (end_place program number))
    bounds.0 bounds.1

pub each_shown : (program : Program) (facts : Chosen) (procedure : Option ℕ) (look : Look) → IfSome procedure (λ p. p < length program.procedures)
    → All (λ k. (first_shown program procedure ≤ k) × (k < end_shown program procedure))
    (shown_points program (record { facts = facts; procedure = procedure; look = look }))
each_shown program facts None look there =
    all_of_range (λ k. (first_shown program None ≤ k) × (k < end_shown program None)) (points_in program) 0 (length program.procedures)
    (λ number low high. all_points program None number (omega (arith, high)) tt)
each_shown program facts (Some procedure) look there =
    All-append (λ k. (first_shown program (Some procedure) ≤ k) × (k < end_shown program (Some procedure)))
    (points_in program procedure) [] (all_points program (Some procedure) procedure there refl)
    (All-nil (λ k. (first_shown program (Some procedure) ≤ k) × (k < end_shown program (Some procedure))))

module _ (shown : ViewProgram) (are : AreShown shown) (uses : List UnsetUse)
    (told : uses ≡ unset_uses shown.found.graph.now (knowledge_of shown.found) (first_shown shown.found.graph.now shown.view.procedure)
    (end_shown shown.found.graph.now shown.view.procedure - first_shown shown.found.graph.now shown.view.procedure)) where
  within : first_shown shown.found.graph.now shown.view.procedure
      + (end_shown shown.found.graph.now shown.view.procedure - first_shown shown.found.graph.now shown.view.procedure)
      ≤ point_count shown.found.graph.now
  within =
      let bounds = inside shown.found.graph.now shown.view.procedure are.procedure in
      omega (arith, bounds.0, bounds.1)

  -- the uses that are shown are such uses
  pub shown_uses : (graph : Program) → shown.found.graph.now ≡ graph → All (IsUnsetUse graph) uses
  shown_uses graph same =
      subst (λ (p : Program). All (IsUnsetUse p) uses) same
      (subst (λ (us : List UnsetUse). All (IsUnsetUse shown.found.graph.now) us) (sym told)
      (uses_are shown.found are.found are.doubts (all_of shown are) (all_of_is shown are) _ _ within))

  -- and their paths are witnesses, for whatever is known
  pub shown_witnesses : (graph : Program) → shown.found.graph.now ≡ graph → (table : PathTable) → ArePathsOf graph uses table
      → AreWitnessesOf shown table
  shown_witnesses graph same table paths = λ known is_known point variable shows said.
      let at = All-contains (λ k. (first_shown shown.found.graph.now shown.view.procedure ≤ k) × (k < end_shown shown.found.graph.now shown.view.procedure))
      (shown_points shown.found.graph.now shown.view) point
      (each_shown shown.found.graph.now shown.view.facts shown.view.procedure shown.view.look are.procedure) shows in
      let low : first_shown shown.found.graph.now shown.view.procedure ≤ point = at.0 in
      let high : point < end_shown shown.found.graph.now shown.view.procedure = at.1 in
      let program : Program = shown.found.graph.now in
      let bounds = inside program shown.view.procedure are.procedure in
      let here : ArePathsOf program uses table = subst (λ (p : Program). ArePathsOf p uses table) (sym same) paths in
      witness_found program uses table here point variable (omega (arith, high, bounds.1))
      (subst (λ (us : List UnsetUse). Contains us (record { point = point; variable = variable })) (sym told)
      (use_is_told shown.found are.found are.doubts known is_known _ _ point variable within low (omega (arith, high, bounds.0)) said))
