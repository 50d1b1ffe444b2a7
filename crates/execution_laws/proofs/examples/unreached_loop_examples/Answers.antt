use Rattle.std.proofs.Common.{nat_eq, [], ◌∷◌, if◌then◌else◌, refl}
use Rattle.flow_graph.specs.declared.edge.Edge.TheVariants.{Step, Call, Ret}
use Rattle.flow_graph.proofs.graphs.ExampleLemmas.{path_is, no_backward_path, calls_return_as}
use Rattle.execution_laws.specs.Examples.{unreached_loop}
use Rattle.execution_laws.proofs.ExampleLemmas.{not_doubtful_on_executions, not_reached, reached_inside}
use Rattle.execution_laws.proofs.examples.unreached_loop_examples.Goals as goal

pub returns-clause-never_reached : goal.returns-clause-never_reached
returns-clause-never_reached c = not_reached unreached_loop (0 ∷ 1 ∷ 6 ∷ 7 ∷ 2 ∷ 5 ∷ []) (1 ∷ []) refl refl 4 refl

pub returns-clause-before_call : goal.returns-clause-before_call
returns-clause-before_call c = let path = Call 1 1 6 ∷ Step 6 7 ∷ Ret 3 7 4 ∷ [] in
    (path, 4, path_is unreached_loop 1 path 4 refl, no_backward_path unreached_loop (4 ∷ []) refl refl 4 refl)

pub returns-clause-not_before_call : goal.returns-clause-not_before_call
returns-clause-not_before_call c = let reached = 0 ∷ 1 ∷ 6 ∷ 7 ∷ 2 ∷ 5 ∷ [] in
    let last = Step 2 5 ∷ [] in
    let back = Ret 1 7 2 ∷ last in
    let inner = Step 6 7 ∷ back in
    let whole = Call 1 1 6 ∷ inner in
    not_doubtful_on_executions unreached_loop reached (reached_inside unreached_loop reached (1 ∷ []) refl refl) (1 ∷ 6 ∷ 7 ∷ 2 ∷ 5 ∷ []) refl (
      (whole, (path_is unreached_loop 1 whole 5 refl, refl)),
      (
        (inner, (path_is unreached_loop 6 inner 5 refl, refl)),
        (
          (back, (path_is unreached_loop 7 back 5 refl, refl)),
          ((last, (path_is unreached_loop 2 last 5 refl, refl)), (([], (refl, refl)), tt)),
        ),
      ),
    ) 1 refl

pub returns-clause-calls_return : goal.returns-clause-calls_return
returns-clause-calls_return c = calls_return_as unreached_loop (λ site. if nat_eq site 1 then 2 else 4) refl
