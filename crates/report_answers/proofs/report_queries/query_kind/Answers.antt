use Rattle.std.proofs.Common.{rules, ◌≡◌, ◌+◌, ◌≤◌, ℕ, List, length, inl, inr, ap, subst, sym, arith}
use Rattle.flow_graph.proofs.places.Standing.{stands}
use Rattle.flow_graph.specs.declared.analysis.Analysis.TheVariants.{Avail}
use Rattle.flow_queries.specs.declared.query.Query.{Query}
use Rattle.report_answers.specs.code.Chosen.{wanted_query}
use Rattle.tac_program.specs.declared.program.StmtKind.{StmtKind}
use Rattle.report_answers.specs.code.Querying.{Queries, QueriesAssigned, QueriesEvaluated, QueriesReads, IsAmongTests}
use Rattle.tac_program.specs.Programs.{Program}
use Rattle.report_answers.proofs.queries.Querying.{queries_then, reads_still, tests_count}
use Rattle.report_answers.proofs.queries.Statements.{next_below, tests_assign_nothing}
use Rattle.report_answers.proofs.report_queries.query_kind.Goals as goal

pub returns-clause-queries : goal.returns-clause-queries
returns-clause-queries c =
    let program : Program = c.args.graph.now in
    let a : List Query = c.args.queries.now.items in
    let b : List Query = c.query_reads.new.queries.items in
    let d : List Query = c.query_evaluated.new.queries.items in
    let e : List Query = c.query_assigned.new.queries.items in
    queries_then c.args.chosen program a b e 2 2 4 c.in_ok-query_reads.ensures.queries
    (queries_then c.args.chosen program b d e 1 1 2 c.in_ok-query_evaluated.ensures.queries c.in_ok-query_assigned.ensures.queries (omega arith)) (omega arith)

pub returns-clause-queried : goal.returns-clause-queried
returns-clause-queried c =
    let program : Program = c.args.graph.now in
    let a : List Query = c.args.queries.now.items in
    let b : List Query = c.query_reads.new.queries.items in
    let d : List Query = c.query_evaluated.new.queries.items in
    let e : List Query = c.query_assigned.new.queries.items in
    let point : ℕ = c.args.point in
    let kind : StmtKind = c.args.kind.now in
    let first : c.len-reads.result ≡ length a = search rules in
    let second : c.len-evaluated.result ≡ length b = search rules in
    let third : c.len-assigned.result ≡ length d = search rules in
    let fourth : c.len-test.result ≡ length c.args.tests.now.items = search rules in
    let last : Queries c.args.chosen program d e 1 = c.in_ok-query_assigned.ensures.queries in
    let all : Queries c.args.chosen program b e 2 = queries_then c.args.chosen program b d e 1 1 2 c.in_ok-query_evaluated.ensures.queries last (omega arith) in
    record {
      reads = subst (λ (q : ℕ). QueriesReads c.args.chosen e q point kind) (sym first)
          (reads_still c.args.chosen program b e (length a) point kind all.kept c.in_ok-query_reads.ensures.queried);
      evaluated = subst (λ (q : ℕ). QueriesEvaluated c.args.chosen program e q point) (sym second)
          (λ bit is. last.kept (length b) (wanted_query c.args.chosen Avail point bit) (c.in_ok-query_evaluated.ensures.queried bit is));
      assigned = subst (λ (q : ℕ). QueriesAssigned c.args.chosen e q point kind) (sym third) c.in_ok-query_assigned.ensures.queried;
      test = subst (λ (q : ℕ). IsAmongTests c.put_test.new.tests.items q point kind) (sym fourth) c.in_ok-put_test.ensures.queried;
    }

pub returns-clause-both : goal.returns-clause-both
returns-clause-both c =
    let old : List ℕ = c.args.tests.now.items in
    let new : List ℕ = c.put_test.new.tests.items in
    let reads = c.in_ok-query_reads.ensures.queries.count in
    let evaluates = c.in_ok-query_evaluated.ensures.queries.count in
    let assigns = c.in_ok-query_assigned.ensures.queries.count in
    let tested : length new ≤ length old + 1 = tests_count old new c.args.point c.in_ok-put_test.ensures.more in
    elim c.in_ok-put_test.ensures.none [
      | inl test ↦
          let same : length c.query_assigned.new.queries.items ≡ length c.query_evaluated.new.queries.items =
          ap length (c.in_ok-query_assigned.ensures.none (tests_assign_nothing c.args.kind.now test)) in
          omega (arith, reads, evaluates, same, tested)
      | inr still ↦
          let same : length new ≡ length old = ap length still in
          omega (arith, reads, evaluates, assigns, same)
    ]

pub returns-clause-behind : goal.returns-clause-behind
returns-clause-behind c =
    next_below c.args.graph.now c.args.point c.args.kind.now
    (stands c.args.graph.now c.requires.sound c.args.point c.args.kind.now c.requires.point c.requires.kind)
