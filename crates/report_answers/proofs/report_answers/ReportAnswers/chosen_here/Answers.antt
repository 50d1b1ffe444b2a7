use Rattle.std.proofs.Common.{◌≡◌, ◌∙◌, List, sym, subst}
use Rattle.std.specs.Prelude.{MatchOption}
use Rattle.flow_queries.specs.Queries.{AreAnswers, AreQueriesOf}
use Rattle.flow_queries.specs.declared.query.Query.{Query}
use Rattle.report_answers.specs.code.Reported.{IsFirstRoundOf, IsNextRoundOf, TellChosen, TellRestOf, words_left}
use Rattle.report_answers.specs.declared.chosen_bits.ChosenBits.{ChosenBits}
use Rattle.report_answers.specs.declared.report_rounds.LaterRounds.{LaterRounds}
use Rattle.tac_program.specs.Programs.{Program}
use Rattle.report_answers.proofs.report_answers.ReportAnswers.chosen_here.Goals as goal

pub answer_here-requires-clause-queries : goal.answer_here-requires-clause-queries
answer_here-requires-clause-queries c =
    subst (λ (p : Program). AreQueriesOf p c.in_ok-queries.queries.items) (sym c.in_ok-solvers.ensures) c.in_ok-queries.ensures.queries

pub answer_here-requires-in-Some-clause-queries : goal.answer_here-requires-in-Some-clause-queries
answer_here-requires-in-Some-clause-queries c =
    let new : LaterRounds = c.next_chosen.new.self in
    let next : IsNextRoundOf c.loop-rounds.rounds.rounds.chosen c.args.graph.now new c.in-Some.queries.items =
    subst (λ o. MatchOption o (words_left new ≡ 0) (λ queries. IsNextRoundOf c.loop-rounds.rounds.rounds.chosen c.args.graph.now new queries.items))
    c.in-Some.is c.in_ok-queries-2.ensures.next in
    subst (λ (p : Program). AreQueriesOf p c.in-Some.queries.items) (sym c.loop-rounds.invariant.solvers) next.queries

pub put_round-requires-clause-answers : goal.put_round-requires-clause-answers
put_round-requires-clause-answers c =
    subst (λ (p : Program). AreAnswers p c.in_ok-answers-2.answers) c.loop-rounds.invariant.solvers c.in_ok-answers-2.ensures.answers

pub put_round-requires-clause-round : goal.put_round-requires-clause-round
put_round-requires-clause-round c =
    let new : LaterRounds = c.next_chosen.new.self in
    let next : IsNextRoundOf c.loop-rounds.rounds.rounds.chosen c.args.graph.now new c.in-Some.queries.items =
    subst (λ o. MatchOption o (words_left new ≡ 0) (λ queries. IsNextRoundOf c.loop-rounds.rounds.rounds.chosen c.args.graph.now new queries.items))
    c.in-Some.is c.in_ok-queries-2.ensures.next in
    subst (λ (chosen : ChosenBits). IsNextRoundOf chosen c.args.graph.now new c.in_ok-answers-2.answers.queries) (sym c.in_ok-queries-2.ensures.rest.rounds.same_bits)
    (subst (λ (queries : List Query). IsNextRoundOf c.loop-rounds.rounds.rounds.chosen c.args.graph.now new queries)
    (sym c.in_ok-answers-2.ensures.queries) next)

pub next_chosen-requires : goal.next_chosen-requires
next_chosen-requires c =
    let inv = c.loop-rounds.invariant in
    subst (λ (chosen : ChosenBits). TellRestOf chosen c.args.graph.now c.loop-rounds.rounds) (sym inv.rest.rounds.same_bits) inv.rest

pub put_round-requires-clause-rest : goal.put_round-requires-clause-rest
put_round-requires-clause-rest c =
    let rest = c.in_ok-queries-2.ensures.rest in
    subst (λ (chosen : ChosenBits). TellRestOf chosen c.args.graph.now c.next_chosen.new.self) (sym rest.rounds.same_bits) rest

pub loop-rounds-preserved : goal.loop-rounds-preserved
loop-rounds-preserved c =
    let inv = c.loop-rounds.invariant in
    record {
      rest = subst (λ (chosen : ChosenBits). TellRestOf chosen c.args.graph.now c.put_round.new.self)
          (c.in_ok-queries-2.ensures.rest.rounds.same_bits ∙ inv.rest.rounds.same_bits) c.in_ok-put_round.ensures.rest;
      solvers = c.in_ok-answers-2.ensures.solvers ∙ inv.solvers;
    }

pub done_chosen-requires-clause-rest : goal.done_chosen-requires-clause-rest
done_chosen-requires-clause-rest c =
    let rest = c.in_ok-queries-2.ensures.rest in
    subst (λ (chosen : ChosenBits). TellRestOf chosen c.args.graph.now c.next_chosen.new.self) (sym rest.rounds.same_bits) rest

pub returns : goal.returns
returns c =
    let inv = c.loop-rounds.invariant in
    subst (λ (chosen : ChosenBits). TellChosen chosen c.args.graph.now c.done_chosen.result)
    (c.in_ok-queries-2.ensures.rest.rounds.same_bits ∙ inv.rest.rounds.same_bits) c.done_chosen.ensures

pub put_chosen-requires-clause-first : goal.put_chosen-requires-clause-first
put_chosen-requires-clause-first c =
    let are = c.in_ok-queries.ensures in
    let first = c.in_ok-queries.first in
    subst (λ (chosen : ChosenBits). IsFirstRoundOf chosen c.args.graph.now c.in_ok-answers.answers.queries first) (sym are.rounds.same_bits)
    (subst (λ (all : List Query). IsFirstRoundOf c.args.chosen c.args.graph.now all first) (sym c.in_ok-answers.ensures.queries) are)

pub loop-rounds-init : goal.loop-rounds-init
loop-rounds-init c = record {
  rest = subst (λ (chosen : ChosenBits). TellRestOf chosen c.args.graph.now c.in_ok-rounds.rounds) c.in_ok-queries.ensures.rounds.same_bits
      c.in_ok-rounds.ensures;
  solvers = c.in_ok-answers.ensures.solvers ∙ c.in_ok-solvers.ensures;
}
