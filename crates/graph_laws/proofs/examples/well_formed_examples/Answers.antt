use Rattle.std.proofs.Common.{◌≡◌, ℕ, nat_eq, if◌then◌else◌, refl, arith}
use Rattle.flow_graph.specs.Examples.{two_calls, recursive_procedure, recursive_main, several_callees, endless_callee, uncalled_caller}
use Rattle.flow_graph.proofs.graphs.ExampleLemmas.{calls_return_as, well_formed_is}
use Rattle.graph_laws.proofs.examples.well_formed_examples.Goals as goal

pub returns-clause-two_calls : goal.returns-clause-two_calls
returns-clause-two_calls c = well_formed_is two_calls refl

pub returns-clause-recursive_procedure : goal.returns-clause-recursive_procedure
returns-clause-recursive_procedure c = well_formed_is recursive_procedure refl

pub returns-clause-recursive_main : goal.returns-clause-recursive_main
returns-clause-recursive_main c = well_formed_is recursive_main refl

pub returns-clause-several_callees : goal.returns-clause-several_callees
returns-clause-several_callees c = well_formed_is several_callees refl

pub returns-clause-endless_callee : goal.returns-clause-endless_callee
returns-clause-endless_callee c = well_formed_is endless_callee refl

pub returns-clause-uncalled_caller : goal.returns-clause-uncalled_caller
returns-clause-uncalled_caller c = well_formed_is uncalled_caller refl

pub returns-clause-calls_return : goal.returns-clause-calls_return
returns-clause-calls_return c = calls_return_as two_calls (λ site. if nat_eq site 1 then 2 else 5) refl

pub returns-clause-step_between_procedures : goal.returns-clause-step_between_procedures
returns-clause-step_between_procedures c well =
    let same : ◌≡◌ {A = ℕ} 0 1 = well.step_inside 0 7 (0, omega arith, refl) in
    absurd (omega arith)
