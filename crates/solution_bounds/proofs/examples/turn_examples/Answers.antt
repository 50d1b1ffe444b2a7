use Rattle.std.proofs.Common.{◌≡◌, true, false, nat_eq, ◌<◌, [], ◌∷◌, refl, arith}
use Rattle.flow_graph.specs.declared.edge.Edge.TheVariants.{Step, Call, Ret}
use Rattle.flow_graph.proofs.graphs.ExampleLemmas.{edge_is, well_formed_is}
use Rattle.summary_equations.specs.Equations.{entry_is_reached, Preserved, generated_by_step, root_is_entered}
use Rattle.summary_equations.specs.Laws.{Passes}
use Rattle.solution_bounds.specs.Examples.{calls_in_turn, among, first_definition}
use Rattle.solution_bounds.specs.Quotients.{Quotient}
use Rattle.solution_bounds.specs.Turns.{Returns, returns_at_once}
use Rattle.solution_bounds.specs.Witnesses.{way_begins, Hangs, hangs_where_generated}
use Rattle.solution_bounds.proofs.bounds.NestedCalls.{each}
use Rattle.solution_bounds.proofs.quotients.ExampleTests.{quotient_above}
use Rattle.solution_bounds.proofs.witnesses.Turns.{turns_bring}
use Rattle.solution_bounds.proofs.examples.turn_examples.Goals as goal

pub returns-clause-brought : goal.returns-clause-brought
returns-clause-brought c =
    turns_bring calls_in_turn first_definition (among []) 1 (among (1 ∷ [])) (λ p. 0) (among (2 ∷ [])) (λ p. 0) (well_formed_is calls_in_turn refl)
    (each (λ p. Preserved calls_in_turn first_definition.kill (calls_in_turn.exit p)) [] tt)
    (each (λ p. Returns calls_in_turn first_definition.kill (among []) 1 (λ r. Passes (among (1 ∷ [])) r × (0 < 0)) p) (1 ∷ []) (
      returns_at_once 0 0 1 1 (omega arith, edge_is calls_in_turn (Call 0 0 3) refl) (edge_is calls_in_turn (Ret 0 4 1) refl)
          (entry_is_reached 0 (omega arith)) way_begins,
      tt,
    ))
    (each (λ p. Hangs calls_in_turn first_definition (among []) (nat_eq 1) (λ r. Passes (among (2 ∷ [])) r × (0 < 0)) p) (2 ∷ []) (
      hangs_where_generated 1 1 2 1 (omega arith, edge_is calls_in_turn (Call 1 1 5) refl) root_is_entered refl way_begins,
      tt,
    ))
    1 2 refl (generated_by_step 3 4 (edge_is calls_in_turn (Step 3 4) refl) (entry_is_reached 1 (omega arith)) refl) refl

abbrev above : Quotient
above = record {
  inside = λ p. true;
  leads = λ p. true;
  preserved = λ x. true;
  generated = among (1 ∷ 2 ∷ 4 ∷ []);
  brought = among (2 ∷ []);
  outside_generates = false;
  outside_brought = false;
}

pub returns-clause-not_to_first : goal.returns-clause-not_to_first
returns-clause-not_to_first c = λ brought.
    let upper = quotient_above calls_in_turn first_definition above (well_formed_is calls_in_turn refl) refl in
    let has : false ≡ true = upper.brought 1 brought in
    cc has
