use Rattle.std.proofs.Common.{rules, ◌≡◌, ◌∙◌, ◌≤◌, ℕ, suc, List, Some, slice_index, sym, ap, subst, arith}
use Rattle.std.proofs.lemmas.Option.{slice_get_within}
use Rattle.flow_queries.specs.Queries.{IsWordAt}
use Rattle.flow_queries.specs.declared.query.Query.{Query}
use Rattle.report_answers.specs.code.Busy.{AreBusy, busy_lists, busy_query}
use Rattle.report_answers.proofs.busy.Asked.{IsNext, next_of, put_gap, put_rest, whole_word}
use Rattle.report_answers.proofs.busy.Rounds.{keeps_all, keeps_then}
use Rattle.tac_program.specs.Programs.{Program}
use Rattle.report_answers.proofs.busy_words.BusyWords.put_test.Goals as goal

pub loop-place-init : goal.loop-place-init
loop-place-init c = record {
  keeps = keeps_all (busy_lists c.args.self.now) c.args.test;
  put = record {
    end = c.args.round.until;
    low = c.requires.ordered;
    high = omega arith;
    asked = c.requires.asked;
    answered = c.requires.answered;
  };
}

pub query-query-requires : goal.query-query-requires
query-query-requires c =
    let put = c.loop-place.invariant.put in
    let next = next_of c.args.graph.now c.args.point c.args.round.from c.args.answers.now.queries put.end c.loop-place.place c.args.places.1
    c.loop-place-test.true put.asked in
    slice_get_within c.args.answers.now.queries c.loop-place.place next.query next.there

pub word-requires : goal.word-requires
word-requires c =
    let put = c.loop-place.invariant.put in
    let next = next_of c.args.graph.now c.args.point c.args.round.from c.args.answers.now.queries put.end c.loop-place.place c.args.places.1
    c.loop-place-test.true put.asked in
    omega (arith, slice_get_within c.args.answers.now.queries c.loop-place.place next.query next.there, c.requires.answers.count)

pub loop-place-preserved : goal.loop-place-preserved
loop-place-preserved c =
    let program : Program = c.args.graph.now in
    let point : ℕ = c.args.point in
    let from : ℕ = c.args.round.from in
    let queries : List Query = c.args.answers.now.queries in
    let place : ℕ = c.loop-place.place in
    let put = c.loop-place.invariant.put in
    let next : IsNext program point from queries put.end place c.args.places.1 =
    next_of program point from queries put.end place c.args.places.1 c.loop-place-test.true put.asked in
    let both : Some c.query-query.result ≡ Some next.query = sym c.query-query.ensures ∙ next.there in
    let same : next.query ≡ c.query-query.result = cc both in
    let word : next.query.word ≡ c.query-query.result.word = ap (λ (a : Query). a.word) same in
    let answer : IsWordAt program (busy_query point next.query.word) c.word.result =
    subst (IsWordAt program (busy_query point next.query.word)) (sym c.word.ensures)
    (whole_word program point from next.query (slice_index c.args.answers.now.words place) next.busy
    (c.requires.answers.sets place next.query next.there)) in
    let gap =
    put_gap c.args.round.chosen program point next.query.word put.end c.loop-place.self.words.items (slice_index c.loop-place.self.firsts.items c.args.test)
    next.before next.none put.answered in
    let put_here : AreBusy c.args.round.chosen program c.put.new.self.words.items point next.query.word (slice_index c.put.new.self.firsts.items c.args.test) =
    subst (λ (n : ℕ). AreBusy c.args.round.chosen program c.put.new.self.words.items point n (slice_index c.put.new.self.firsts.items c.args.test)) (sym word)
    (c.in_ok-put.ensures.answered c.args.round.chosen program point
    (subst (λ (n : ℕ). IsWordAt program (busy_query point n) c.word.result) word answer)
    (omega (arith, word, next.before, put.high, c.requires.within))
    (c.requires.wanted c.query-query.result.word (omega (arith, word, next.past)) (omega (arith, word, next.before, put.high)))
    (subst (λ (n : ℕ). AreBusy c.args.round.chosen program c.loop-place.self.words.items point (suc n)
    (slice_index c.loop-place.self.firsts.items c.args.test)) word gap)) in
    record {
      keeps =
          keeps_then (busy_lists c.args.self.now) (busy_lists c.loop-place.self) (busy_lists c.put.new.self) c.args.test
          c.loop-place.invariant.keeps c.in_ok-put.ensures.keeps;
      put = record {
        end = next.query.word;
        low = next.past;
        high = omega (arith, next.before, put.high);
        asked = next.rest;
        answered = put_here;
      };
    }

pub returns-clause-answered : goal.returns-clause-answered
returns-clause-answered c =
    let over : c.args.places.1 ≤ c.loop-place.place = search rules in
    put_rest c.args.round.chosen c.args.graph.now c.args.answers.now.queries c.args.point c.args.round.from c.args.round.until c.loop-place.place
    c.args.places.1 c.loop-place.self.words.items (slice_index c.loop-place.self.firsts.items c.args.test) over c.loop-place.invariant.put

pub put-requires : goal.put-requires
put-requires c = omega (arith, c.loop-place.invariant.keeps.count, c.requires.test)

pub returns-clause-keeps : goal.returns-clause-keeps
returns-clause-keeps c = c.loop-place.invariant.keeps
