use Rattle.std.proofs.Common.{rules, ◌≡◌, ◌+◌, ◌-◌, ◌*◌, ◌<◌, ℕ, List, [], ◌∷◌, ◌++◌, length, slice_index, sym, subst, arith}
use Rattle.std.proofs.lemmas.Nat.{row_fits}
use Rattle.std.proofs.lemmas.Option.{slice_get-get_or, slice_get_within}
use Rattle.flow_queries.specs.declared.query.Query.{Query}
use Rattle.report_answers.proofs.busy.Asked.{AreAskedTo, asked_one_more, none_asked_to, none_put}
use Rattle.report_answers.proofs.busy.Rounds.{kept_longer}
use Rattle.report_answers.proofs.queries.Querying.{queries_then}
use Rattle.tac_program.specs.Programs.{Program}
use Rattle.report_answers.proofs.busy_rounds.query_tests.Goals as goal

pub loop-test-init : goal.loop-test-init
loop-test-init c =
    let program : Program = c.args.graph.now in
    let queries : List Query = c.args.queries.now.items in
    let count : c.len-before.result ≡ length queries = search rules in
    record {
      queries = none_put c.args.words.chosen program queries (0 * (c.args.words.end - c.args.words.first));
      asked =
          subst (λ (starts : List ℕ). AreAskedTo program c.args.tests.now c.args.words.first c.args.words.end 0 starts queries)
          (sym c.in_ok-push.ensures.items)
          (none_asked_to program c.args.tests.now c.args.words.first c.args.words.end c.len-before.result c.args.starts.now.items queries c.requires.none
          count);
      few = omega arith;
    }

pub loop-test-preserved : goal.loop-test-preserved
loop-test-preserved c =
    let program : Program = c.args.graph.now in
    let tests : List ℕ = c.args.tests.now in
    let first : ℕ = c.args.words.first in
    let end : ℕ = c.args.words.end in
    let test : ℕ = c.loop-test.test in
    let inv = c.loop-test.invariant in
    let old : List Query = c.args.queries.now.items in
    let mid : List Query = c.loop-test.queries.items in
    let new : List Query = c.query_point.new.queries.items in
    let low : test < length tests = search rules in
    let before : c.len-before.result ≡ length old = search rules in
    let count : c.len.result ≡ length new = search rules in
    let again : c.len-in-loop-test.result ≡ length new = search rules in
    record {
      queries =
          queries_then c.args.words.chosen program old mid new (test * (end - first)) (end - first) ((test + 1) * (end - first)) inv.queries
          c.in_ok-query_point.ensures.queries (row_fits test (end - first) (test + 1) (end - first) (omega arith) (omega arith));
      asked =
          subst (λ (starts : List ℕ). AreAskedTo program tests first end (test + 1) starts new) (sym c.in_ok-push-2.ensures.items)
          (subst (λ n. AreAskedTo program tests first end (test + 1) (c.loop-test.starts.items ++ n ∷ []) new) (sym again)
          (asked_one_more program tests first end test (slice_index tests test) c.loop-test.starts.items mid new c.in_ok-query_point.ensures.queries.kept
          (slice_get-get_or tests test 0 low) c.in_ok-query_point.ensures.asked inv.asked));
      few = omega (arith, c.if-len-before.false, before, count);
    }

pub overflow_sub-len : goal.overflow_sub-len
overflow_sub-len c =
    let old : List Query = c.args.queries.now.items in
    let new : List Query = c.query_point.new.queries.items in
    let before : c.len-before.result ≡ length old = search rules in
    let count : c.len.result ≡ length new = search rules in
    let longer = kept_longer old new
    (λ q query there. c.in_ok-query_point.ensures.queries.kept q query (c.loop-test.invariant.queries.kept q query there)) in
    omega (arith, before, count, longer)

pub returns-then-len-before-clause-queries : goal.returns-then-len-before-clause-queries
returns-then-len-before-clause-queries c =
    let width : ℕ = c.args.words.end - c.args.words.first in
    let test : ℕ = c.loop-test.test in
    let low : test < length c.args.tests.now = search rules in
    queries_then c.args.words.chosen c.args.graph.now c.args.queries.now.items c.loop-test.queries.items c.query_point.new.queries.items (test * width) width
    (length c.args.tests.now * width) c.loop-test.invariant.queries c.in_ok-query_point.ensures.queries
    (row_fits test width (length c.args.tests.now) width low (omega arith))

pub returns-clause-asked : goal.returns-clause-asked
returns-clause-asked c = λ is.
    let asked = c.loop-test.invariant.asked in
    let end : c.loop-test.test ≡ length c.args.tests.now = search rules in
    record {
      count = omega (arith, asked.count, end);
      each = λ i point there.
          let inside = slice_get_within c.args.tests.now i point there in
          asked.each i point (omega (arith, inside, end)) there;
    }
