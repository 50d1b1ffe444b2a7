use Rattle.std.proofs.Common.{rules, ◌≡◌, ◌∙◌, ◌<◌, ◌≤◌, ℕ, length, slice_index, inl, inr, ap, subst, arith}
use Rattle.std.proofs.lemmas.Bool.{cases_lt}
use Rattle.std.proofs.lemmas.Option.{get_or_from_slice_get, slice_get-get_or, slice_get_within}
use Rattle.report_answers.specs.code.Busy.{AreBusy, BusyLists, busy_lists}
use Rattle.tac_program.specs.Programs.{Program}
use Rattle.report_answers.proofs.busy.Rounds.{others_still}
use Rattle.report_answers.proofs.busy_words.BusyWords.put_round.Goals as goal

pub put_test-requires-clause-answered : goal.put_test-requires-clause-answered
put_test-requires-clause-answered c =
    let points = c.args.tests.now in
    let test : ℕ = c.loop-test.test in
    let below : test < length points = search rules in
    c.loop-test.invariant.left test (slice_index points test) (omega arith) (slice_get-get_or points test 0 below)

pub loop-test-preserved : goal.loop-test-preserved
loop-test-preserved c =
    let program : Program = c.args.graph.now in
    let points = c.args.tests.now in
    let test : ℕ = c.loop-test.test in
    let old : BusyLists = busy_lists c.loop-test.self in
    let new : BusyLists = busy_lists c.put_test.new.self in
    let was = c.loop-test.invariant in
    let put = c.in_ok-put_test.ensures in
    record {
      count = put.keeps.count ∙ was.count;
      done = λ i point below there. elim (cases_lt i test) [
        | inl before ↦ (
            let other : ¬ (i ≡ test) = λ same. omega (arith, before, same) in
            others_still c.args.round.chosen program old new test i point c.args.round.from put.keeps other (was.done i point before there))
        | inr late ↦ (
            let same : test ≡ i = omega (arith, below, late) in
            let named : slice_index points test ≡ point = ap (slice_index points) same ∙ get_or_from_slice_get points i point 0 there in
            subst (λ (j : ℕ). AreBusy c.args.round.chosen program new.words point c.args.round.from (slice_index new.firsts j)) same
            (subst (λ (p : ℕ). AreBusy c.args.round.chosen program new.words p c.args.round.from (slice_index new.firsts test)) named put.answered))
      ];
      left = λ i point above there.
          let other : ¬ (i ≡ test) = λ same. omega (arith, above, same) in
          others_still c.args.round.chosen program old new test i point c.args.round.until put.keeps other
          (was.left i point (omega (arith, above)) there);
    }

pub returns-clause-answered : goal.returns-clause-answered
returns-clause-answered c = λ i point there.
    let inside = slice_get_within c.args.tests.now i point there in
    let end : length c.args.tests.now ≤ c.loop-test.test = search rules in
    c.loop-test.invariant.done i point (omega (arith, inside, end)) there
