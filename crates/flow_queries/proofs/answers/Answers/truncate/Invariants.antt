use Rattle.std.proofs.Common.{◌≡◌, take}
use Rattle.flow_queries.proofs.answers.Answers.truncate.Given as goal

abbrev pub invariant-loop-number : goal.invariant-loop-number
invariant-loop-number l = record {
  queries : l.queries.items ≡ take l.number l.fn.self.queries;
  words : l.words.items ≡ take l.number l.fn.self.words;
}
