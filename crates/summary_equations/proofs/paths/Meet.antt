-- The least solution of a forward may problem is its meet
use Rattle.std.proofs.Common.{◌≡◌, ℕ, Bool, true, false, List, [], ◌<◌, inl, inr, ◌⊎◌}
use Rattle.flow_graph.specs.declared.edge.Edge.{Edge}
use Rattle.flow_graph.specs.Paths.{Shape, Transfer, IsValidPath, value_after, HasPath, SomePathHas}
use Rattle.flow_graph.specs.WellFormed.{IsWellFormed}
use Rattle.flow_graph.specs.MatchedPaths.{IsPathFromEntry, is_preserved_along}
use Rattle.flow_graph.proofs.paths.PathLemmas.{some_sites}
use Rattle.summary_equations.specs.Equations.{Reached, Preserved, Generated, generated_by_step, generated_before_step, generated_by_callee, generated_before_call, root_is_entered}
use Rattle.summary_equations.specs.Equations.{Brought}
use Rattle.summary_equations.specs.Equations.{brought_by_boundary, HasFlag, IsInSolution}
use Rattle.summary_equations.specs.Laws.{SummariesArePaths, SolutionIsMeet}
use Rattle.summary_equations.proofs.paths.Sound.{flag_path, set_path, reached_path, preserved_path, generated_path, value_after-preserved}
use Rattle.summary_equations.proofs.paths.Complete.{Holds, StandsAt, stands_at_entry, stands_after_path, entered_of, brought_of}

-- where a valid path stands
pub stands : (shape : Shape) (transfer : Transfer) → IsWellFormed shape → (path : List Edge) (x : ℕ) → IsValidPath shape path x
    → (sites : List ℕ) × StandsAt shape transfer shape.root_procedure transfer.boundary x sites (value_after transfer path transfer.boundary)
stands shape transfer well path x valid =
    let (sites, opens) = some_sites _ valid.1 in
    let r = shape.root_procedure in (
      sites,
      stands_after_path shape transfer well r transfer.boundary path _ x [] sites transfer.boundary valid.0 opens
          (stands_at_entry shape transfer well r transfer.boundary well.root_in_range),
    )

pub flag_of : (shape : Shape) (transfer : Transfer) → IsWellFormed shape → (x : ℕ) → HasPath shape x → HasFlag shape x
flag_of shape transfer well x has =
    let (sites, at_x) = stands shape transfer well has.0 x has.1 in (
      entered_of shape transfer well shape.root_procedure transfer.boundary root_is_entered sites (shape.procedure_of x) at_x.before at_x.came,
      at_x.reached,
    )

set_of : (shape : Shape) (transfer : Transfer) → IsWellFormed shape → (x : ℕ) → SomePathHas shape transfer x → IsInSolution shape transfer x
set_of shape transfer well x has =
    let (sites, at_x) = stands shape transfer well has.0 x has.1 in
    (flag_of shape transfer well x (has.0, has.1), go sites at_x (at_x.holds has.2))
  where
    go : (sites : List ℕ)
        (at_x : StandsAt shape transfer shape.root_procedure transfer.boundary x sites (value_after transfer has.0 transfer.boundary))
        → Holds shape transfer x at_x.before
        → Generated shape transfer x ⊎ (Brought shape transfer (shape.procedure_of x) × Preserved shape transfer.kill x)
    go sites at_x (inl generated) = inl generated
    go sites at_x (inr preserved) =
        inr (
          brought_of shape transfer well shape.root_procedure transfer.boundary root_is_entered (λ e. brought_by_boundary e) sites
              (shape.procedure_of x) at_x.before at_x.came preserved.0,
          preserved.1,
        )

pub solution_is_meet : SolutionIsMeet
solution_is_meet shape transfer x well = ((flag_path well x, flag_of shape transfer well x), (set_path well x, set_of shape transfer well x))

-- where a matched path from the entry of x's procedure stands
stands_inside : (shape : Shape) (transfer : Transfer) (start : Bool) → IsWellFormed shape → (path : List Edge) (x : ℕ)
    → shape.procedure_of x < shape.procedures → IsPathFromEntry shape path x
    → StandsAt shape transfer (shape.procedure_of x) start x [] (value_after transfer path start)
stands_inside shape transfer start well path x in_range from_entry =
    let p = shape.procedure_of x in
    stands_after_path shape transfer well p start path _ x [] [] start from_entry.0 from_entry.1
    (stands_at_entry shape transfer well p start in_range)

-- a transfer that makes nothing
no_gen : Transfer → Transfer
no_gen transfer = record transfer { gen = λ x y. false }

nothing_generated : {shape : Shape} (transfer : Transfer) {x : ℕ} → Generated shape (no_gen transfer) x → ⊥
unfolding no_gen
nothing_generated transfer (generated_by_step x y edge at_x gens) = cc gens
nothing_generated transfer (generated_before_step x y edge at_x generated unkilled) = nothing_generated transfer generated
nothing_generated transfer (generated_by_callee site x p z call return at_x at_exit generated) = nothing_generated transfer generated
nothing_generated transfer (generated_before_call site x p z call return at_x at_exit generated preserved) = nothing_generated transfer generated

reached_of : (shape : Shape) (transfer : Transfer) → IsWellFormed shape → (x : ℕ) → shape.procedure_of x < shape.procedures
    → (path : List Edge) × IsPathFromEntry shape path x → Reached shape x
reached_of shape transfer well x in_range has = (stands_inside shape transfer false well has.0 x in_range has.1).reached

generated_of : (shape : Shape) (transfer : Transfer) → IsWellFormed shape → (x : ℕ) → shape.procedure_of x < shape.procedures
    → (path : List Edge) × IsPathFromEntry shape path x × (value_after transfer path false ≡ true) → Generated shape transfer x
generated_of shape transfer well x in_range has = go (stands_inside shape transfer false well has.0 x in_range has.1)
  where
    pick : (before : Bool) → before ≡ false → Holds shape transfer x before → Generated shape transfer x
    pick before none (inl generated) = generated
    pick before none (inr preserved) = absurd (cc (none, preserved.0))

    go : StandsAt shape transfer (shape.procedure_of x) false x [] (value_after transfer has.0 false) → Generated shape transfer x
    go at_x = pick at_x.before at_x.came.1 (at_x.holds has.2)

preserved_of : (shape : Shape) (transfer : Transfer) → IsWellFormed shape → (x : ℕ) → shape.procedure_of x < shape.procedures
    → (path : List Edge) × IsPathFromEntry shape path x × (is_preserved_along transfer.kill path ≡ true) → Preserved shape transfer.kill x
unfolding no_gen
preserved_of shape transfer well x in_range has = go (stands_inside shape (no_gen transfer) true well has.0 x in_range has.1)
  where
    pick : (before : Bool) → Holds shape (no_gen transfer) x before → Preserved shape transfer.kill x
    pick before (inl generated) = absurd (nothing_generated transfer generated)
    pick before (inr preserved) = preserved.1

    go : StandsAt shape (no_gen transfer) (shape.procedure_of x) true x [] (value_after (no_gen transfer) has.0 true) → Preserved shape transfer.kill x
    go at_x = pick at_x.before (at_x.holds (value_after-preserved (no_gen transfer) has.0 has.2))

pub summaries_are_paths : SummariesArePaths
summaries_are_paths shape transfer x well in_range = (
  (reached_path well, reached_of shape transfer well x in_range),
  (preserved_path well, preserved_of shape transfer well x in_range),
  (generated_path well, generated_of shape transfer well x in_range),
)
