use Rattle.std.proofs.Common.{subst}
use Rattle.gen_kill.specs.Selections.{Selection}
use Rattle.flow_rows.specs.Solutions.{IsLeastSolution}
use Rattle.flow_rows.proofs.words.RowWords.{solution_to_meet}
use Rattle.flow_rows.proofs.rows.solve_counted.Goals as goal

pub returns-clause-paths : goal.returns-clause-paths
returns-clause-paths c =
    solution_to_meet c.args.problem.now c.args.lo c.args.hi c.in_ok-rows.rows c.root.ensures.well_formed
    (subst (λ (form : Selection). IsLeastSolution form c.args.lo c.args.hi c.in_ok-rows.rows) c.in_ok-solver.ensures c.in_ok-rows.ensures)
