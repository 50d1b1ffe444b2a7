use Rattle.std.proofs.Common.{rules, ◌-◌, ◌<◌, ◌≤◌, List, length, refl, inr, arith}
use Rattle.busy_bounds.specs.BusyBounds.{IsLastWord}
use Rattle.flow_queries.specs.Queries.{IsQueryOf}
use Rattle.flow_queries.specs.declared.query.Query.{Query}
use Rattle.flow_graph.specs.declared.analysis.Analysis.TheVariants.{Busy}
use Rattle.report_answers.specs.code.Busy.{AsksBusy}
use Rattle.report_answers.specs.code.Busy.AreAsked.{asked_all}
use Rattle.report_answers.proofs.busy.Asked.{asked_down_more, none_asked_yet, none_put}
use Rattle.report_answers.proofs.queries.Querying.{queries_one, queries_then}
use Rattle.tac_program.specs.Programs.{Program}
use Rattle.report_answers.proofs.busy_rounds.query_point.Goals as goal

pub loop-asked-init : goal.loop-asked-init
loop-asked-init c = record {
  past = c.requires.words.ordered;
  before = omega arith;
  begun = omega arith;
  left = omega arith;
  queries = none_put c.args.words.chosen c.args.graph.now c.args.queries.now.items (c.args.words.end - c.args.words.end);
  down = none_asked_yet c.args.graph.now c.args.queries.now.items c.args.point c.args.words.first c.args.words.end;
}

pub loop-asked-preserved : goal.loop-asked-preserved
loop-asked-preserved c =
    let program : Program = c.args.graph.now in
    let inv = c.loop-asked.invariant in
    let old : List Query = c.args.queries.now.items in
    let mid : List Query = c.loop-asked.queries.items in
    let new : List Query = c.push.new.self.items in
    let query : Query = record { analysis = Busy; point = c.args.point; word = c.in-Some.word; bits = c.mask-bits.result } in
    let word : IsLastWord program c.args.point c.args.words.first c.loop-asked.last c.in-Some.word = c.in-Some.ensures in
    let busy : AsksBusy program c.args.point query = record { goes = refl; at = refl; all = c.mask-bits.ensures } in
    let low : c.in-Some.word < c.args.words.end = omega (arith, word.before, inv.before) in
    let of : IsQueryOf program query = record { point = c.requires.point; word = omega (arith, low, c.requires.words.within) } in
    let wanted = c.requires.words.wanted c.in-Some.word word.past low in
    record {
      past = word.past;
      before = omega (arith, low);
      begun = omega (arith, inv.begun);
      left = omega (arith, inv.left, word.before, inv.begun);
      queries =
          queries_then c.args.words.chosen program old mid new (c.args.words.end - c.loop-asked.last) 1 (c.args.words.end - c.in-Some.word) inv.queries
          (queries_one c.args.words.chosen program mid new query 1 c.in_ok-push.ensures.items of (inr wanted) (omega arith))
          (omega (arith, word.before, inv.before));
      down =
          asked_down_more program old mid new c.args.point c.args.words.first c.args.words.end c.loop-asked.last query c.in_ok-push.ensures.items busy word
          inv.down;
    }

pub returns-in_default-clause-asked : goal.returns-in_default-clause-asked
returns-in_default-clause-asked c =
    let inv = c.loop-asked.invariant in
    let queries : List Query = c.loop-asked.queries.items in
    inv.down.all queries (length queries) (λ q query there. there)
    (asked_all c.loop-asked.last (length queries) c.in_default.ensures)

pub returns-clause-asked : goal.returns-clause-asked
returns-clause-asked c =
    let inv = c.loop-asked.invariant in
    let queries : List Query = c.loop-asked.queries.items in
    let end : c.args.words.end ≤ c.loop-asked._asked = search rules in
    let all : c.loop-asked.last ≤ c.args.words.first = omega (arith, end, inv.left, inv.begun) in
    inv.down.all queries (length queries) (λ q query there. there)
    (asked_all c.loop-asked.last (length queries) (λ bit low high small table. omega (arith, low, high, all)))
