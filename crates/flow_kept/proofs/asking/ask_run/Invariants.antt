use Rattle.std.proofs.Common.{◌≡◌, length}
use Rattle.flow_kept.specs.code.Asked.{AreWordsOf}
use Rattle.flow_queries.specs.code.Boards.{AreAnswered, queried_in}
use Rattle.gen_kill.specs.Selections.{all_bits}
use Rattle.flow_kept.proofs.asking.ask_run.Given as goal

abbrev pub invariant-queries : goal.invariant-queries
invariant-queries l = record {
  room : length l.answers ≡ length l.queries;
  words : AreWordsOf (all_bits l.fn.graph l.fn.run.analysis) l.range.0 l.range.1 l.solved.0 l.solved.1 l.slice;
  answered : AreAnswered (queried_in l.fn.graph l.queries l.places) l.j l.answers;
}
