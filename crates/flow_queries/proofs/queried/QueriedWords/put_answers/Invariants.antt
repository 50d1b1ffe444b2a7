use Rattle.std.proofs.Common.{◌≡◌, length}
use Rattle.flow_queries.specs.code.Boards.{AreAnswered}
use Rattle.flow_queries.proofs.queried.QueriedWords.put_answers.Given as goal

abbrev pub invariant-loop-j : goal.invariant-loop-j
invariant-loop-j l = record {
  count : length l.words ≡ length l.self.queries;
  answered : AreAnswered l.self l.j l.words;
}
