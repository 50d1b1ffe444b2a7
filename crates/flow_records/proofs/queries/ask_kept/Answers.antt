use Rattle.std.proofs.Common.{List, sym, subst}
use Rattle.flow_kept.specs.Words.{AreWordsAsked}
use Rattle.flow_queries.specs.Queries.{AreQueriesOf}
use Rattle.flow_queries.specs.declared.query.Query.{Query}
use Rattle.tac_program.specs.Programs.{Program}
use Rattle.flow_records.specs.Queries.{AreNumbered}
use Rattle.flow_records.proofs.answers.Numbered.{are_answers, are_queries}
use Rattle.flow_records.proofs.queries.ask_kept.Goals as goal

pub ask-requires-clause-queries : goal.ask-requires-clause-queries
ask-requires-clause-queries c =
    let numbered = subst (λ (p : Program). AreNumbered p c.args.asks.now c.in_ok-queries.queries.items) c.in_ok-graph.ensures.graph
    c.in_ok-queries.ensures.queries in
    subst (AreQueriesOf c.args.kept.now.program) (sym c.as_slice.ensures.value) (are_queries _ _ _ numbered)

pub returns-clause-answers : goal.returns-clause-answers
returns-clause-answers c =
    let numbered = subst (λ (p : Program). AreNumbered p c.args.asks.now c.in_ok-queries.queries.items) c.in_ok-graph.ensures.graph
    c.in_ok-queries.ensures.queries in
    are_answers _ _ _ numbered c.ask.new.words
    (subst (λ (list : List Query). AreWordsAsked c.args.kept.now.program list c.ask.new.words) c.as_slice.ensures.value c.in_ok-ask.ensures.answers)
