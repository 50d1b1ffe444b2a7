use Rattle.std.proofs.Common.{◌∙◌, ◌≤◌, List, length, ℕ, ap, subst, sym, arith}
use Rattle.flow_queries.specs.Queries.{AreQueriesOf, IsAnswerTo}
use Rattle.flow_queries.specs.code.Boards.{AreAnswered, queried_in}
use Rattle.flow_queries.proofs.queries.Placing.{answered_all}
use Rattle.gk_solve.proofs.slices.Slices.{written_over}
use Rattle.tac_program.specs.Programs.{Program}
use Rattle.std.specs.Prelude.{slice_index}
use Rattle.flow_kept.proofs.kept.Kept.ask.Goals as goal

pub ask_run-requires-clause-queries : goal.ask_run-requires-clause-queries
ask_run-requires-clause-queries c =
    subst (λ (p : Program). AreQueriesOf p c.args.queries.now) (sym c.requires.graph) c.requires.queries

pub ask_run-requires-clause-before : goal.ask_run-requires-clause-before
ask_run-requires-clause-before c =
    let places = c.as_slice-in-runs.result.now in
    subst (AreAnswered (queried_in c.args.graph.now c.args.queries.now places) c.runs.done) (sym c.as_mut_slice.ensures.value)
    (subst (λ (numbers : List ℕ). AreAnswered (queried_in c.args.graph.now c.args.queries.now numbers) c.runs.done c.runs.answers.items)
    (sym c.as_slice-in-runs.ensures.value) c.runs.invariant.answered)

pub runs-preserved : goal.runs-preserved
runs-preserved c =
    let until = c.run_at-run.result.until in
    let after = c.ask_run.new.answers in
    let places = c.in_ok-places.places.items in
    let same = c.ask_run.auto.answers ∙ ap length c.as_mut_slice.ensures.value in
    let written = written_over c.runs.answers.len after c.runs.answers.items c.runs.answers.ok.0 same in
    record {
      done = omega (arith, c.run_at-run.ensures.most, ap length c.as_slice.ensures.value);
      room = ap length written ∙ same ∙ c.runs.invariant.room;
      answered = subst (AreAnswered (queried_in c.args.graph.now c.args.queries.now places) until) (sym written)
          (subst (λ (numbers : List ℕ). AreAnswered (queried_in c.args.graph.now c.args.queries.now numbers) until after)
          c.as_slice-in-runs.ensures.value c.in_ok-ask_run.ensures.answered);
    }

pub returns-clause-answers : goal.returns-clause-answers
returns-clause-answers c =
    let queries = c.args.queries.now in
    let arranged = c.in_ok-places.ensures in
    let words = c.runs.answers.items in
    let told = c.copy_from_slice.ensures.after ∙ c.as_slice-2.ensures.value in
    let queried = queried_in c.args.graph.now queries c.in_ok-places.places.items in
    let most : length queries ≤ c.runs.done = omega (arith, c.runs-test.false, c.len.ensures, arranged.size) in
    record {
      count = ap length told ∙ c.runs.invariant.room;
      each = λ q query there.
          subst (λ (list : List ℕ). IsAnswerTo c.args.self.now.program query (slice_index list q)) (sym told)
          (subst (λ (p : Program). IsAnswerTo p query (slice_index words q)) c.requires.graph
          (answered_all queried arranged words c.runs.done most c.runs.invariant.answered q query there));
    }
