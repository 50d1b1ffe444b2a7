use Rattle.std.proofs.Common.{◌∙◌, sym, ap, subst}
use Rattle.flow_queries.specs.Queries.{AreQueriesOf}
use Rattle.gen_kill.specs.Selections.{Selection}
use Rattle.tac_program.specs.Programs.{Program}
use Rattle.flow_queries.proofs.splitting.settle_analysis.Goals as goal

pub asked_of-requires : goal.asked_of-requires
asked_of-requires c =
    subst (λ (p : Program). AreQueriesOf p c.args.queries.now)
    (sym (ap (λ (s : Selection). s.program) (c.problem-problem.ensures ∙ c.solver.ensures))) c.requires.queries
