use Rattle.std.proofs.Common.{subst}
use Rattle.flow_graph.specs.Problems.{may_shape}
use Rattle.gen_kill.specs.Selections.{Selection}
use Rattle.flow_graph.specs.WellFormed.{IsWellFormed}
use Rattle.gk_solve.specs.Solved.{AreSolved}
use Rattle.gk_solve.proofs.words.SolvedWords.{meet_words}
use Rattle.gk_solve.proofs.solver.Solver.solve_from.Goals as goal

pub returns-clause-paths : goal.returns-clause-paths
returns-clause-paths c =
    let formed = subst (λ (form : Selection). IsWellFormed (may_shape form.program form.analysis)) c.self.view_is c.root.ensures.well_formed in
    meet_words c.args.self.now c.solve_from.new.self formed
    (subst (λ (form : Selection). AreSolved form c.solve_from.new.self) c.self.view_is c.solve_from.ensures.solved)
