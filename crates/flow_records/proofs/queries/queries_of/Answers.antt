use Rattle.std.proofs.Common.{◌≡◌, ◌+◌, ◌<◌, ◌++◌, ◌∷◌, [], ℕ, List, Some, length, slice_get, sym, ap, subst, arith}
use Rattle.flow_queries.specs.declared.query.Query.{Query}
use Rattle.flow_records.specs.Queries.{IsNumberedQuery}
use Rattle.std.proofs.lemmas.List.{length_push}
use Rattle.std.proofs.lemmas.Option.{slice_get_within, slice_get-get_or}
use Rattle.std.proofs.lemmas.Result.{err_from_is_err_and}
use Rattle.flow_records.specs.declared.queries.NumberedQuery.{NumberedQuery}
use Rattle.flow_records.proofs.answers.Numbered.{ask_fault, numbered_more}
use Rattle.flow_records.proofs.queries.queries_of.Goals as goal

pub returns-in_err-query_of-clause-fault : goal.returns-in_err-query_of-clause-fault
returns-in_err-query_of-clause-fault c =
    let fault = err_from_is_err_and c.from_residual-in_err-query_of.result c.from_residual-in_err-query_of.ensures.1 in
    rw (fault.1, fault.2)
    (ask_fault c.args.asks.now c.args.graph.now c.loop-ask.ask-index _ _ (slice_get-get_or c.args.asks.now c.loop-ask.ask-index _ c.loop-ask-test.true)
    c.in_err-query_of.ensures.fault)

pub loop-ask-preserved : goal.loop-ask-preserved
loop-ask-preserved c =
    let asks = c.args.asks.now in
    let n = c.loop-ask.ask-index in
    let queries = c.loop-ask.queries.items in
    let query : Query = c.in_ok-query_of.field-0 in
    let before = c.loop-ask.invariant in
    let more : c.put_query.new.queries.items ≡ queries ++ query ∷ [] = c.in_ok-put_query.ensures in
    record {
      count = omega (arith, ap length more, length_push queries query, before.count);
      each = subst (λ (list : List Query). (q : ℕ) (other : NumberedQuery) (one : Query) → q < n + 1 → slice_get asks q ≡ Some other → slice_get list q ≡ Some one
          → IsNumberedQuery c.args.graph.now other one) (sym more)
          (numbered_more c.args.graph.now asks queries n _ query before.count (slice_get-get_or asks n _ c.loop-ask-test.true)
          c.in_ok-query_of.ensures.query before.each);
    }

pub returns-clause-queries : goal.returns-clause-queries
returns-clause-queries c = record {
  count = omega (arith, c.loop-ask.invariant.count, c.loop-ask-test.false, c.loop-ask.auto.ask-index-end);
  each = λ q ask query there is. c.loop-ask.invariant.each q ask query
      (omega (arith, c.loop-ask.invariant.count, slice_get_within c.loop-ask.queries.items q query is)) there is;
}
