use Rattle.std.proofs.Common.{rules, ◌≡◌, ◌∙◌, ◌+◌, ◌*◌, ◌^◌, ◌<◌, ◌≤◌, ℕ, List, Some, length, slice_get, take, sym, ap, subst, arith}
use Rattle.std.proofs.lemmas.Option.{slice_get_within}
use Rattle.flow_queries.specs.declared.query.Query.{Query}
use Rattle.report_answers.specs.code.Querying.{Queries}
use Rattle.report_answers.specs.code.Busy.{AreRounds}
use Rattle.report_answers.specs.code.Reported.{AreQueriedAt, AreReportQueries}
use Rattle.report_answers.specs.declared.chosen_bits.ChosenBits.{ChosenBits}
use Rattle.tac_program.specs.Programs.{Program}
use Rattle.report_answers.proofs.queries.Querying.{queried_still}
use Rattle.report_answers.proofs.busy.Rounds.{kept_longer, take_still}
use Rattle.report_answers.proofs.report_rounds.FirstRound.of_chosen.Goals as goal

pub returns : goal.returns
returns c =
    let program : Program = c.args.graph.now in
    let all = c.in_ok-queries.field-0 in
    let report : AreReportQueries c.args.chosen program all = c.in_ok-queries.ensures in
    let dense : List Query = all.queries.items in
    let whole : List Query = c.query.new.queries.items in
    let begun : AreRounds c.args.chosen program all.tests.items c.in_ok-rounds.rounds = c.in_ok-rounds.ensures.rounds in
    let rounds = c.query.new.self in
    let are : AreRounds c.args.chosen program all.tests.items rounds =
    subst (λ (chosen : ChosenBits). AreRounds chosen program all.tests.items rounds) begun.same_bits
    (subst (λ (tests : List ℕ). AreRounds c.in_ok-rounds.rounds.chosen program tests rounds) begun.same c.in_ok-query.ensures.rounds) in
    let more : Queries c.args.chosen program dense whole (2 ^ 25) =
    subst (λ (chosen : ChosenBits). Queries chosen program dense whole (2 ^ 25)) begun.same_bits c.in_ok-query.ensures.queries in
    let count : c.len-before.result ≡ length dense = search rules in
    let longer : length dense ≤ length whole = kept_longer dense whole more.kept in
    let kept : (q : ℕ) (query : Query) → slice_get dense q ≡ Some query → slice_get (take (length dense) whole) q ≡ Some query =
    λ q query there. take_still whole (length dense) q query longer (slice_get_within dense q query there) (more.kept q query there) in
    record {
      queries = more.of report.queries;
      only = more.only report.only;
      few = omega (arith, c.in_ok-query.ensures.few);
      before = (omega (arith, count, report.few, c.points.ensures.few), omega (arith, count, longer));
      count = report.count;
      queried = λ point here kind at stands.
          subst (λ (n : ℕ). AreQueriedAt c.args.chosen program (take n whole) rounds.tests.items here point kind) (sym count)
          (queried_still c.args.chosen program dense (take (length dense) whole) all.tests.items rounds.tests.items here point kind kept
          (λ i test there. ap (λ (tests : List ℕ). slice_get tests i) are.same ∙ there) (report.queried point here kind at stands));
      rounds = subst (λ (tests : List ℕ). AreRounds c.args.chosen program tests rounds) (sym are.same) are;
      round = c.in_ok-query.ensures.round;
    }

pub query-requires-clause-rounds : goal.query-requires-clause-rounds
query-requires-clause-rounds c =
    let rounds = c.in_ok-rounds.rounds in
    let are : AreRounds c.args.chosen c.args.graph.now c.in_ok-queries.field-0.tests.items rounds = c.in_ok-rounds.ensures.rounds in
    subst (λ (chosen : ChosenBits). AreRounds chosen c.args.graph.now rounds.tests.items rounds) (sym are.same_bits)
    (subst (λ (tests : List ℕ). AreRounds c.args.chosen c.args.graph.now tests rounds) (sym are.same) are)

pub query-requires-clause-room : goal.query-requires-clause-room
query-requires-clause-room c =
    let rounds = c.in_ok-rounds.rounds in
    let count : c.len-before.result ≡ length c.in_ok-queries.field-0.queries.items = search rules in
    subst (λ n. n + length rounds.tests.items * rounds.least < 2 ^ 26) count
    (subst (λ (tests : List ℕ). c.len-before.result + length tests * rounds.least < 2 ^ 26) (sym c.in_ok-rounds.ensures.rounds.same)
    c.in_ok-rounds.ensures.room)

pub query-requires-clause-shared : goal.query-requires-clause-shared
query-requires-clause-shared c =
    let count : c.len-before.result ≡ length c.in_ok-queries.field-0.queries.items = search rules in
    omega (arith, count, c.in_ok-rounds.ensures.shared)
