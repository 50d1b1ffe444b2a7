use Rattle.std.proofs.Common.{ℕ, nat_eq, List, [], ◌∷◌, if◌then◌else◌, refl}
use Rattle.flow_graph.specs.Examples.{uncalled_caller}
use Rattle.flow_graph.specs.Paths.{HasBackwardPath}
use Rattle.flow_graph.specs.declared.edge.Edge.TheVariants.{Step, Call, Ret}
use Rattle.flow_graph.proofs.graphs.ExampleLemmas.{path_is, no_backward_path, calls_return_as, Each}
use Rattle.execution_laws.specs.Examples.{uncalled_endless}
use Rattle.execution_laws.proofs.Executions.{doubt_is_at_reached_points}
use Rattle.execution_laws.proofs.ExampleLemmas.{not_doubtful_on_executions, not_reached, reached_inside}
use Rattle.execution_laws.proofs.examples.uncalled_procedure_examples.Goals as goal

-- the points that are reached in both programs, behind the first
abbrev ahead : List ℕ
ahead = 1 ∷ 3 ∷ 4 ∷ 2 ∷ []

endless_can : Each (HasBackwardPath uncalled_endless) ahead
endless_can =
    let last = Ret 1 4 2 ∷ [] in
    let inner = Step 3 4 ∷ last in
    let whole = Call 1 1 3 ∷ inner in (
      (whole, (path_is uncalled_endless 1 whole 2 refl, refl)),
      (
        (inner, (path_is uncalled_endless 3 inner 2 refl, refl)),
        ((last, (path_is uncalled_endless 4 last 2 refl, refl)), (([], (refl, refl)), tt)),
      ),
    )

caller_can : Each (HasBackwardPath uncalled_caller) ahead
caller_can =
    let last = Ret 1 4 2 ∷ [] in
    let inner = Step 3 4 ∷ last in
    let whole = Call 1 1 3 ∷ inner in (
      (whole, (path_is uncalled_caller 1 whole 2 refl, refl)),
      (
        (inner, (path_is uncalled_caller 3 inner 2 refl, refl)),
        ((last, (path_is uncalled_caller 4 last 2 refl, refl)), (([], (refl, refl)), tt)),
      ),
    )

pub returns-clause-never_reached : goal.returns-clause-never_reached
returns-clause-never_reached c = not_reached uncalled_endless (0 ∷ ahead) (1 ∷ []) refl refl 6 refl

pub returns-clause-before_call : goal.returns-clause-before_call
returns-clause-before_call c = let path = Call 1 1 3 ∷ Step 3 4 ∷ Ret 5 4 6 ∷ [] in
    (path, 6, path_is uncalled_endless 1 path 6 refl, no_backward_path uncalled_endless (6 ∷ []) refl refl 6 refl)

pub returns-clause-at_end_of_callee : goal.returns-clause-at_end_of_callee
returns-clause-at_end_of_callee c =
    (Ret 5 4 6 ∷ [], 6, path_is uncalled_endless 4 (Ret 5 4 6 ∷ []) 6 refl, no_backward_path uncalled_endless (6 ∷ []) refl refl 6 refl)

pub returns-clause-not_before_call : goal.returns-clause-not_before_call
returns-clause-not_before_call c =
    not_doubtful_on_executions uncalled_endless (0 ∷ ahead) (reached_inside uncalled_endless (0 ∷ ahead) (1 ∷ []) refl refl) ahead refl
    endless_can 1 refl

pub returns-clause-not_at_end_of_callee : goal.returns-clause-not_at_end_of_callee
returns-clause-not_at_end_of_callee c =
    not_doubtful_on_executions uncalled_endless (0 ∷ ahead) (reached_inside uncalled_endless (0 ∷ ahead) (1 ∷ []) refl refl) ahead refl
    endless_can 4 refl

pub returns-clause-not_where_no_execution_is : goal.returns-clause-not_where_no_execution_is
returns-clause-not_where_no_execution_is c doubtful =
    not_reached uncalled_endless (0 ∷ ahead) (1 ∷ []) refl refl 6 refl (doubt_is_at_reached_points uncalled_endless 6 doubtful)

pub returns-clause-caller_that_ends : goal.returns-clause-caller_that_ends
returns-clause-caller_that_ends c = let path = Call 1 1 3 ∷ Step 3 4 ∷ Ret 5 4 6 ∷ [] in
    (path, 6, path_is uncalled_caller 1 path 6 refl, no_backward_path uncalled_caller (6 ∷ []) refl refl 6 refl)

pub returns-clause-not_by_caller_that_ends : goal.returns-clause-not_by_caller_that_ends
returns-clause-not_by_caller_that_ends c =
    not_doubtful_on_executions uncalled_caller (0 ∷ ahead) (reached_inside uncalled_caller (0 ∷ ahead) (1 ∷ []) refl refl) ahead refl
    caller_can 1 refl

pub returns-clause-calls_return : goal.returns-clause-calls_return
returns-clause-calls_return c = calls_return_as uncalled_endless (λ site. if nat_eq site 1 then 2 else 6) refl
