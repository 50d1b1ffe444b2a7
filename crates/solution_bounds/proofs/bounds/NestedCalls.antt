-- What is reached in the worked program, and its ways
use Rattle.std.proofs.Common.{◌≡◌, ℕ, Bool, true, false, ◌||◌, nat_eq, List, [], ◌∷◌, refl, arith}
use Rattle.std.proofs.lemmas.Bool.{eqb-true}
use Rattle.flow_graph.specs.declared.edge.Edge.TheVariants.{Step, Call, Ret}
use Rattle.flow_graph.specs.Paths.{IsEdge}
use Rattle.flow_graph.specs.WellFormed.{IsWellFormed}
use Rattle.flow_graph.proofs.graphs.ExampleLemmas.{edge_is, well_formed_is}
use Rattle.summary_equations.specs.Equations.{CallsAt, ReturnsTo, Reached, entry_is_reached, reached_by_step, reached_by_call}
use Rattle.solution_bounds.specs.Examples.{nested_calls, among}

pub is_well_formed : IsWellFormed nested_calls
is_well_formed = well_formed_is nested_calls refl

pub into_p : CallsAt nested_calls 1 1 1
into_p = (omega arith, edge_is nested_calls (Call 1 1 3) refl)

pub out_of_p : ReturnsTo nested_calls 1 1 2
out_of_p = edge_is nested_calls (Ret 1 4 2) refl

pub into_q : CallsAt nested_calls 3 3 2
into_q = (omega arith, edge_is nested_calls (Call 3 3 5) refl)

pub out_of_q : ReturnsTo nested_calls 3 2 4
out_of_q = edge_is nested_calls (Ret 3 6 4) refl

pub first_step : IsEdge nested_calls (Step 0 1)
first_step = edge_is nested_calls (Step 0 1) refl

pub step_of_q : IsEdge nested_calls (Step 5 6)
step_of_q = edge_is nested_calls (Step 5 6) refl

pub at_beginning : Reached nested_calls 0
at_beginning = entry_is_reached 0 (omega arith)

pub at_call : Reached nested_calls 1
at_call = reached_by_step 0 1 first_step at_beginning

pub in_p : Reached nested_calls 3
in_p = entry_is_reached 1 (omega arith)

pub in_q : Reached nested_calls 5
in_q = entry_is_reached 2 (omega arith)

pub after_call : Reached nested_calls 2
after_call = reached_by_call 1 1 1 2 into_p out_of_p at_call (reached_by_call 3 3 2 4 into_q out_of_q in_p (reached_by_step 5 6 step_of_q in_q))

abbrev pub Each : (ℕ → Type 0) → List ℕ → Type 0
Each P [] = Unit {0}
Each P (x ∷ xs) = P x × Each P xs

-- what holds of each number of a list holds of those that pass its test
pub each : (P : ℕ → Type 0) (numbers : List ℕ) → Each P numbers → (y : ℕ) → among numbers y ≡ true → P y
each P [] all y passes = absurd (cc passes)
each P (x ∷ numbers) all y passes = go (nat_eq y x) refl passes (λ later. each P numbers all.1 y later)
  where
    go : (same : Bool) → nat_eq y x ≡ same → (same || among numbers y) ≡ true → (among numbers y ≡ true → P y) → P y
    go true same passes others = rw (eqb-true y x same) all.0
    go false same passes others = others passes
