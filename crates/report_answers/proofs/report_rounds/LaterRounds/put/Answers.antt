use Rattle.std.proofs.Common.{sym, subst}
use Rattle.std.specs.Prelude.{IfOk}
use Rattle.report_answers.specs.code.Reported.{IsNextRoundOf, TellRestOf}
use Rattle.report_answers.specs.declared.chosen_bits.ChosenBits.{ChosenBits}
use Rattle.report_answers.proofs.report_rounds.LaterRounds.put.Goals as goal

pub put_round-requires-clause-rest : goal.put_round-requires-clause-rest
put_round-requires-clause-rest c =
    subst (λ (chosen : ChosenBits). TellRestOf chosen c.args.graph.now c.args.self.now) (sym c.requires.rest.rounds.same_bits) c.requires.rest

pub put_round-requires-clause-round : goal.put_round-requires-clause-round
put_round-requires-clause-round c =
    subst (λ (chosen : ChosenBits). IsNextRoundOf chosen c.args.graph.now c.args.self.now c.args.answers.now.queries)
    (sym c.requires.rest.rounds.same_bits) c.requires.round

pub returns-clause-rest : goal.returns-clause-rest
returns-clause-rest c =
    subst (λ (chosen : ChosenBits). IfOk c.put_round.result (λ _. TellRestOf chosen c.args.graph.now c.put_round.new.self))
    c.requires.rest.rounds.same_bits c.put_round.ensures.rest
