use Rattle.std.proofs.Common.{◌≡◌, ◌∙◌, ◌<◌, ℕ, List, length, slice_get, Some, get_or, refl, ap, subst, sym, arith}
use Rattle.std.proofs.lemmas.List.{length-set}
use Rattle.std.proofs.lemmas.Option.{slice_get-get_or}
use Rattle.gen_kill.specs.Selections.{Selection, column_count}
use Rattle.gk_solve.specs.Solved.{SliceTable}
use Rattle.tac_program.specs.Programs.{Program}
use Rattle.flow_queries.specs.Queries.{IsAnswerTo}
use Rattle.flow_queries.specs.code.Boards.{Arranges, no_query, ordered, queried_in}
use Rattle.flow_queries.specs.declared.query.Query.{Query}
use Rattle.flow_queries.proofs.queries.Placing.{answered_more}
use Rattle.flow_kept.specs.code.Asked.{AreWordsOf, IsAsked}
use Rattle.flow_kept.proofs.facts.Asked.{asked_in_run}
use Rattle.flow_kept.proofs.asking.ask_run.Goals as goal

-- the query of a number in the order
query_at : (queries : List Query) (places : List ℕ) (j : ℕ) → Arranges queries (ordered queries places) places → j < length places
    → slice_get queries (get_or places j 0) ≡ Some (get_or queries (get_or places j 0) no_query)
query_at queries places j arranged inside =
    slice_get-get_or queries (get_or places j 0) no_query (arranged.within j (omega (arith, inside, arranged.size)))

pub solve_to-solved-requires-clause-word : goal.solve_to-solved-requires-clause-word
solve_to-solved-requires-clause-word c =
    let queries = c.args.asked.queries.now in
    let places = c.args.asked.places.now in
    let j = c.queries.j in
    let query : Query = get_or queries (get_or places j 0) no_query in
    let there = query_at queries places j c.requires.arranged (omega (arith, c.queries-test.true, c.requires.run.most)) in
    let asked = asked_in_run queries places c.args.from c.args.graph.now c.args.run c.bits_of_run-range.result.0 c.bits_of_run-range.result.1
    c.bits.result j query c.requires.queries c.requires.run c.queries.auto.j c.queries-test.true there c.bits_of_run-range.ensures.low
    (c.bits.ensures.count ∙ ap column_count c.in_ok-problem.ensures) c.bits_of_run-range.ensures.all in
    let is = c.requires.queries (get_or places j 0) query there in
    omega (arith, c.queries.invariant.words.hi_is, (asked.high 0 (omega arith)).1 (omega (arith, is.word)))

pub asked_word-requires-clause-asked : goal.asked_word-requires-clause-asked
asked_word-requires-clause-asked c =
    let queries = c.args.asked.queries.now in
    let places = c.args.asked.places.now in
    let j = c.queries.j in
    let query : Query = get_or queries (get_or places j 0) no_query in
    let there = query_at queries places j c.requires.arranged (omega (arith, c.queries-test.true, c.requires.run.most)) in
    subst (λ (s : Selection). IsAsked s c.bits_of_run-range.result.0 c.bits_of_run-range.result.1 query)
    (sym (c.problem.ensures ∙ c.in_ok-solver.ensures ∙ c.in_ok-problem.ensures))
    (asked_in_run queries places c.args.from c.args.graph.now c.args.run c.bits_of_run-range.result.0 c.bits_of_run-range.result.1
    c.bits.result j query c.requires.queries c.requires.run (omega (arith, c.queries.auto.j)) c.queries-test.true there c.bits_of_run-range.ensures.low
    (c.bits.ensures.count ∙ ap column_count c.in_ok-problem.ensures) c.bits_of_run-range.ensures.all)

pub queries-preserved : goal.queries-preserved
queries-preserved c =
    let queries = c.args.asked.queries.now in
    let places = c.args.asked.places.now in
    let j = c.queries.j in
    let query : Query = get_or queries (get_or places j 0) no_query in
    let before = c.queries.invariant in
    let lo = before.words.lo_is in
    let hi = before.words.hi_is in
    let arranged = c.requires.arranged in
    let inside : j < length places = omega (arith, c.queries-test.true, c.requires.run.most) in
    let there = query_at queries places j arranged inside in
    let few : j < length queries = omega (arith, inside, arranged.size) in
    let place : get_or places j 0 < length c.queries.answers = omega (arith, arranged.within j few, before.room) in
    let whole = c.in_ok-solver.ensures ∙ c.in_ok-problem.ensures in
    let solved = c.solve_to-solved.result in
    let slice : SliceTable = c.solve_to-solved.new.slice in
    record {
      room = length-set c.queries.answers (get_or places j 0) c.asked_word.result ∙ before.room;
      words = subst (λ (s : Selection). AreWordsOf s c.bits_of_run-range.result.0 c.bits_of_run-range.result.1 solved.0 solved.1 slice) whole
          (subst (λ n. AreWordsOf c.in_ok-solver.solver n c.bits_of_run-range.result.1 solved.0 solved.1 slice) lo
          (subst (λ n. AreWordsOf c.in_ok-solver.solver c.queries.slice.lo n solved.0 solved.1 slice) hi c.solve_to-solved.ensures.solved));
      answered = answered_more (queried_in c.args.graph.now queries places) arranged c.queries.answers j (get_or places j 0) c.asked_word.result
          few refl place before.answered
          (λ other at. let same : query ≡ other = cc (sym there ∙ sym (arranged.each j few) ∙ at) in
          subst (λ (p : Program). IsAnswerTo p other c.asked_word.result) (ap (λ (s : Selection). s.program) (c.problem.ensures ∙ whole))
          (subst (λ (q : Query). IsAnswerTo c.problem.result.now.program q c.asked_word.result) same c.asked_word.ensures));
    }

pub returns : goal.returns
returns c = record { answered = λ j query below. c.queries.invariant.answered j query (omega (arith, below, c.queries-test.false)) }
