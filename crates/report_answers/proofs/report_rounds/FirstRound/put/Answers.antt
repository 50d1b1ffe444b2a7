use Rattle.std.proofs.Common.{sym, subst}
use Rattle.std.specs.Prelude.{IfOk}
use Rattle.report_answers.specs.code.Reported.{IsFirstRoundOf, TellRestOf}
use Rattle.report_answers.specs.declared.chosen_bits.ChosenBits.{ChosenBits}
use Rattle.report_answers.proofs.report_rounds.FirstRound.put.Goals as goal

pub put_chosen-requires-clause-first : goal.put_chosen-requires-clause-first
put_chosen-requires-clause-first c =
    subst (λ (chosen : ChosenBits). IsFirstRoundOf chosen c.args.graph.now c.args.answers.queries c.args.self) (sym c.requires.first.rounds.same_bits)
    c.requires.first

pub returns : goal.returns
returns c =
    subst (λ (chosen : ChosenBits). IfOk c.put_chosen.result (TellRestOf chosen c.args.graph.now)) c.requires.first.rounds.same_bits
    c.put_chosen.ensures
