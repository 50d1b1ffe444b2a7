use Rattle.std.proofs.Common.{sym, subst}
use Rattle.flow_queries.specs.Queries.{AreAnswers, AreQueriesOf}
use Rattle.tac_program.specs.Programs.{Program}
use Rattle.flow_queries.proofs.calls.worked_answers.Goals as goal

pub answer-requires-clause-queries : goal.answer-requires-clause-queries
answer-requires-clause-queries g c = λ κs lives.
    subst (λ (p : Program). AreQueriesOf p c.args.queries.items) (sym c.in_ok-solvers.ensures) c.requires.queries

pub returns-clause-answers : goal.returns-clause-answers
returns-clause-answers g c =
    subst (λ (p : Program). AreAnswers p c.in_ok-answers.answers) c.in_ok-solvers.ensures c.in_ok-answers.ensures.answers
