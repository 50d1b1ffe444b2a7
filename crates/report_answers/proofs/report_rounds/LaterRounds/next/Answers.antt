use Rattle.std.proofs.Common.{◌≡◌, sym, subst}
use Rattle.std.specs.Prelude.{IfOk, MatchOption}
use Rattle.report_answers.specs.code.Reported.{IsNextRoundOf, TellRestOf, words_left}
use Rattle.report_answers.specs.declared.chosen_bits.ChosenBits.{ChosenBits}
use Rattle.report_answers.proofs.report_rounds.LaterRounds.next.Goals as goal

pub next_chosen-requires : goal.next_chosen-requires
next_chosen-requires c =
    subst (λ (chosen : ChosenBits). TellRestOf chosen c.args.graph.now c.args.self.now) (sym c.requires.rounds.same_bits) c.requires

pub returns-clause-rest : goal.returns-clause-rest
returns-clause-rest c =
    subst (λ (chosen : ChosenBits). IfOk c.next_chosen.result (λ _. TellRestOf chosen c.args.graph.now c.next_chosen.new.self))
    c.requires.rounds.same_bits c.next_chosen.ensures.rest

pub returns-clause-next : goal.returns-clause-next
returns-clause-next c =
    subst (λ (chosen : ChosenBits). IfOk c.next_chosen.result (λ next. MatchOption next (words_left c.next_chosen.new.self ≡ 0)
    (λ queries. IsNextRoundOf chosen c.args.graph.now c.next_chosen.new.self queries.items))) c.requires.rounds.same_bits
    c.next_chosen.ensures.next
