use Rattle.std.proofs.Common.{◌≡◌, ◌∙◌, ℕ, List, Some, length, rules, slice_index, sym, subst, arith}
use Rattle.std.proofs.lemmas.Option.{slice_get_within}
use Rattle.flow_queries.specs.Queries.{IsAnswerTo}
use Rattle.flow_queries.specs.declared.query.Query.{Query}
use Rattle.flow_queries.proofs.queries.TableAnswers.{known_more}
use Rattle.flow_rows.proofs.table_answers.words_in.Goals as goal

pub loop-q-preserved : goal.loop-q-preserved
loop-q-preserved c =
    let program = c.args.graph.now in
    let before = c.loop-q.invariant in
    let query = c.query_at-query.result in
    record {
      count = search rules;
      answered = λ i a below there.
          subst (λ (words : List ℕ). IsAnswerTo program a (slice_index words i)) (sym c.in_ok-push.ensures.items)
          (known_more program c.args.queries.now c.loop-q.words.items c.loop-q.q c.answer_in.result before.count before.answered
          (λ one is.
          let both : Some query ≡ Some one = sym c.query_at-query.ensures ∙ is in
          let same : query ≡ one = cc both in
          subst (λ (a : Query). IsAnswerTo program a c.answer_in.result) same c.answer_in.ensures)
          i a below there);
    }

pub returns-clause-answered : goal.returns-clause-answered
returns-clause-answered c = λ q query there.
    let end : length c.args.queries.now ≡ c.loop-q.q = search rules in
    c.loop-q.invariant.answered q query (omega (arith, slice_get_within c.args.queries.now q query there, end)) there

pub answer_in-requires-clause-query : goal.answer_in-requires-clause-query
answer_in-requires-clause-query c = c.requires.queries c.loop-q.q c.query_at-query.result c.query_at-query.ensures
