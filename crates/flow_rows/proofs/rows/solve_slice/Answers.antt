use Rattle.std.proofs.Common.{subst}
use Rattle.flow_graph.specs.Problems.{may_shape}
use Rattle.gen_kill.specs.Selections.{Selection}
use Rattle.flow_graph.specs.WellFormed.{IsWellFormed}
use Rattle.flow_rows.proofs.words.RowWords.{solution_to_meet}
use Rattle.flow_rows.proofs.rows.solve_slice.Goals as goal

pub returns-clause-paths : goal.returns-clause-paths
returns-clause-paths c =
    let formed = subst (λ (form : Selection). IsWellFormed (may_shape form.program form.analysis)) c.problem.ensures c.root.ensures.well_formed in
    solution_to_meet c.args.solver.now c.args.lo c.args.hi c.in_ok-rows.rows formed c.in_ok-rows.ensures
