use Rattle.std.proofs.Common.{[], ◌∷◌, refl}
use Rattle.flow_graph.specs.declared.edge.Edge.TheVariants.{Step, Call, Ret}
use Rattle.flow_graph.specs.Examples.{endless_loop, live_in_loop, one_call, uncalled_caller}
use Rattle.flow_graph.proofs.graphs.ExampleLemmas.{path_is, never_live, no_backward_path, not_doubtful}
use Rattle.graph_laws.proofs.examples.doubtful_point_examples.Goals as goal

pub returns-clause-before_loop : goal.returns-clause-before_loop
returns-clause-before_loop c =
    (Step 1 3 ∷ [], 3, path_is endless_loop 1 (Step 1 3 ∷ []) 3 refl, no_backward_path endless_loop (3 ∷ 4 ∷ []) refl refl 3 refl)

pub returns-clause-in_loop : goal.returns-clause-in_loop
returns-clause-in_loop c = ([], 4, refl, no_backward_path endless_loop (3 ∷ 4 ∷ []) refl refl 4 refl)

pub returns-clause-at_return : goal.returns-clause-at_return
returns-clause-at_return c = not_doubtful endless_loop (2 ∷ 5 ∷ []) refl
    ((Step 2 5 ∷ [], (path_is endless_loop 2 (Step 2 5 ∷ []) 5 refl, refl)), (([], (refl, refl)), tt)) 2 refl

pub returns-clause-at_end : goal.returns-clause-at_end
returns-clause-at_end c = not_doubtful endless_loop (5 ∷ []) refl (([], (refl, refl)), tt) 5 refl

pub returns-clause-not_live_before_loop : goal.returns-clause-not_live_before_loop
returns-clause-not_live_before_loop c = never_live endless_loop live_in_loop (1 ∷ 2 ∷ 5 ∷ []) (3 ∷ 4 ∷ []) refl refl refl refl 1 refl

pub returns-clause-read_in_loop : goal.returns-clause-read_in_loop
returns-clause-read_in_loop c = (Step 1 3 ∷ [], 3, (path_is endless_loop 1 (Step 1 3 ∷ []) 3 refl, refl), refl, refl)

pub returns-clause-called_once : goal.returns-clause-called_once
returns-clause-called_once c = let last = Ret 1 4 2 ∷ [] in
    let inner = Step 3 4 ∷ last in
    let whole = Call 1 1 3 ∷ inner in
    not_doubtful one_call (1 ∷ 3 ∷ 4 ∷ 2 ∷ []) refl (
      (whole, (path_is one_call 1 whole 2 refl, refl)),
      ((inner, (path_is one_call 3 inner 2 refl, refl)), ((last, (path_is one_call 4 last 2 refl, refl)), (([], (refl, refl)), tt))),
    ) 1 refl

pub returns-clause-to_uncalled : goal.returns-clause-to_uncalled
returns-clause-to_uncalled c =
    (Ret 5 4 6 ∷ [], 6, path_is uncalled_caller 4 (Ret 5 4 6 ∷ []) 6 refl, no_backward_path uncalled_caller (6 ∷ []) refl refl 6 refl)

pub returns-clause-before_call : goal.returns-clause-before_call
returns-clause-before_call c = let path = Call 1 1 3 ∷ Step 3 4 ∷ Ret 5 4 6 ∷ [] in
    (path, 6, path_is uncalled_caller 1 path 6 refl, no_backward_path uncalled_caller (6 ∷ []) refl refl 6 refl)

pub returns-clause-after_call : goal.returns-clause-after_call
returns-clause-after_call c = not_doubtful uncalled_caller (2 ∷ []) refl (([], (refl, refl)), tt) 2 refl
