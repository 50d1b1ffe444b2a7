-- What is told where no round is left.
use Rattle.std.proofs.Common.{◌≡◌, ◌∙◌, ℕ, ◌-◌, ◌/◌, true, false, List, slice_index, sym, subst, arith}
use Rattle.flow_graph.specs.declared.analysis.Analysis.TheVariants.{Busy}
use Rattle.report_answers.specs.code.Busy.{AreRounds, TellBusy, busy_lists}
use Rattle.report_answers.specs.code.Chosen.{wants}
use Rattle.report_answers.specs.code.Reported.{AreQueried, TellChosen, TellRestOf, reported_of, words_left}
use Rattle.report_answers.specs.declared.busy_rounds.BusyRounds.{BusyRounds}
use Rattle.report_answers.specs.declared.chosen_bits.ChosenBits.{ChosenBits}
use Rattle.report_answers.specs.declared.report_rounds.LaterRounds.{LaterRounds}
use Rattle.report_answers.proofs.busy.Lists.{passed}
use Rattle.tac_program.specs.Programs.{Program}

-- before the first word nothing is wanted
tell_all : (chosen : ChosenBits) (program : Program) (points : List ℕ) (rounds : BusyRounds) → AreRounds chosen program points rounds
    → rounds.until - rounds.first ≡ 0 → TellBusy chosen program points (busy_lists rounds.busy) 0
tell_all chosen program points rounds are none i point there =
    let same : rounds.until ≡ rounds.first = omega (arith, none, are.ordered) in
    passed chosen program point rounds.busy.words.items 0 rounds.until (slice_index rounds.busy.firsts.items i) (omega arith)
    (λ bit low high is.
    let off : wants chosen Busy bit ≡ false = are.unwanted (bit / 64) (omega (arith, high, same)) in
    let both : true ≡ false = sym is.0 ∙ off in
    cc both)
    (are.answered i point there)

pub report_known : (chosen : ChosenBits) (program : Program) (known : LaterRounds) → TellRestOf chosen program known → words_left known ≡ 0
    → TellChosen chosen program (reported_of known)
report_known chosen program known rest none = record {
  same_bits = rest.rounds.same_bits;
  few = rest.few;
  answers = rest.answers;
  count = rest.count;
  queried = rest.queried;
  firsts = rest.rounds.count;
  only = rest.only;
  busy = tell_all chosen program known.rounds.tests.items known.rounds rest.rounds none;
}

-- the answers stay, and a round less is left
pub rest_known : (chosen : ChosenBits) (program : Program) (known : LaterRounds) (rounds : BusyRounds) → TellRestOf chosen program known
    → AreRounds chosen program known.rounds.tests.items rounds → TellRestOf chosen program (record known { rounds = rounds })
rest_known chosen program known rounds rest are = record {
  few = rest.few;
  answers = rest.answers;
  count = rest.count;
  only = rest.only;
  queried = subst (λ (tests : List ℕ). AreQueried chosen program known.answers.queries tests known.places.items) (sym are.same) rest.queried;
  rounds = subst (λ (tests : List ℕ). AreRounds chosen program tests rounds) (sym are.same) are;
}
