use Rattle.std.proofs.Common.{◌∙◌, sym, subst}
use Rattle.flow_queries.specs.Queries.{AreAnswers, AreQueriesOf}
use Rattle.tac_program.specs.Programs.{Program}
use Rattle.flow_team_answers_tests.proofs.query_tests.lines_again.Goals as goal

pub answer-requires-clause-queries : goal.answer-requires-clause-queries
answer-requires-clause-queries g c = λ κs lives.
    subst (λ (p : Program). AreQueriesOf p c.in_ok-first.first.items) (sym c.in_ok-solvers.ensures) c.in_ok-first.ensures.queries

pub answer-requires-2-clause-queries : goal.answer-requires-2-clause-queries
answer-requires-2-clause-queries g c = λ κs lives.
    subst (λ (p : Program). AreQueriesOf p c.in_ok-again.again.items) (sym (c.in_ok-_answers.ensures.solvers ∙ c.in_ok-solvers.ensures))
    c.in_ok-again.ensures.queries

pub answer_lines-requires : goal.answer_lines-requires
answer_lines-requires g c =
    c.in_ok-truncate.ensures.answers c.args.graph.now
    (subst (λ (p : Program). AreAnswers p c.in_ok-answers.answers) (c.in_ok-_answers.ensures.solvers ∙ c.in_ok-solvers.ensures)
    c.in_ok-answers.ensures.answers)
