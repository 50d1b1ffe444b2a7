use Rattle.std.proofs.Common.{◌≡◌, length}
use Rattle.flow_queries.specs.code.Packing.{AreAskedWords}
use Rattle.flow_queries.proofs.packing.asked_words.Given as goal

abbrev pub invariant-loop-query : goal.invariant-loop-query
invariant-loop-query l = record {
  count : length l.words.items ≡ l.count;
  asked : AreAskedWords l.queries l.analysis l.query-index l.words.items;
}
