use Rattle.std.proofs.Common.{sym, subst}
use Rattle.report_answers.specs.code.Reported.{TellChosen, TellRestOf}
use Rattle.report_answers.specs.declared.chosen_bits.ChosenBits.{ChosenBits}
use Rattle.report_answers.proofs.report_rounds.LaterRounds.done.Goals as goal

pub done_chosen-requires-clause-rest : goal.done_chosen-requires-clause-rest
done_chosen-requires-clause-rest c =
    subst (λ (chosen : ChosenBits). TellRestOf chosen c.args._graph.now c.args.self) (sym c.requires.rest.rounds.same_bits) c.requires.rest

pub returns : goal.returns
returns c =
    subst (λ (chosen : ChosenBits). TellChosen chosen c.args._graph.now c.done_chosen.result) c.requires.rest.rounds.same_bits
    c.done_chosen.ensures
