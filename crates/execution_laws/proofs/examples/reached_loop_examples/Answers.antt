use Rattle.std.proofs.Common.{[], ◌∷◌, refl}
use Rattle.flow_graph.specs.Examples.{endless_loop, live_in_loop}
use Rattle.flow_graph.specs.declared.edge.Edge.TheVariants.{Step}
use Rattle.flow_graph.proofs.graphs.ExampleLemmas.{path_is, never_live, no_backward_path}
use Rattle.execution_laws.proofs.ExampleLemmas.{not_doubtful_on_executions, reached_inside}
use Rattle.execution_laws.proofs.examples.reached_loop_examples.Goals as goal

pub returns-clause-before_loop : goal.returns-clause-before_loop
returns-clause-before_loop c = let to_loop = Step 0 1 ∷ Step 1 3 ∷ [] in (
  Step 1 3 ∷ [],
  3,
  path_is endless_loop 1 (Step 1 3 ∷ []) 3 refl,
  ((Step 0 1 ∷ [], (path_is endless_loop 0 (Step 0 1 ∷ []) 1 refl, refl)), (to_loop, (path_is endless_loop 0 to_loop 3 refl, refl))),
  no_backward_path endless_loop (3 ∷ 4 ∷ []) refl refl 3 refl,
)

pub returns-clause-in_loop : goal.returns-clause-in_loop
returns-clause-in_loop c = let path = Step 0 1 ∷ Step 1 3 ∷ Step 3 4 ∷ [] in
    ([], 4, refl, (path, (path_is endless_loop 0 path 4 refl, refl)), no_backward_path endless_loop (3 ∷ 4 ∷ []) refl refl 4 refl)

pub returns-clause-at_return : goal.returns-clause-at_return
returns-clause-at_return c = let reached = 0 ∷ 1 ∷ 2 ∷ 3 ∷ 4 ∷ 5 ∷ [] in
    not_doubtful_on_executions endless_loop reached (reached_inside endless_loop reached [] refl refl) (2 ∷ 5 ∷ []) refl
    ((Step 2 5 ∷ [], (path_is endless_loop 2 (Step 2 5 ∷ []) 5 refl, refl)), (([], (refl, refl)), tt)) 2 refl

pub returns-clause-not_live_before_loop : goal.returns-clause-not_live_before_loop
returns-clause-not_live_before_loop c = never_live endless_loop live_in_loop (1 ∷ 2 ∷ 5 ∷ []) (3 ∷ 4 ∷ []) refl refl refl refl 1 refl

pub returns-clause-read_in_loop : goal.returns-clause-read_in_loop
returns-clause-read_in_loop c = let whole = Step 0 1 ∷ Step 1 3 ∷ [] in (
  Step 0 1 ∷ [],
  Step 1 3 ∷ [],
  3,
  (path_is endless_loop 0 whole 3 refl, refl),
  path_is endless_loop 0 (Step 0 1 ∷ []) 1 refl,
  refl,
  refl,
)
