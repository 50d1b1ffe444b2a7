-- The points before the next one have their words.
use Rattle.flow_kept.specs.Facts.{IsRowWord}
use Rattle.flow_kept.specs.code.Filled.{AreFilled}
use Rattle.flow_kept.proofs.table.put_words.Given as goal

abbrev pub invariant-loop-row : goal.invariant-loop-row
invariant-loop-row l = record {
  filled : AreFilled (IsRowWord l.problem.program l.problem.analysis l.layout.from l.slice.lo l.slice.hi) l.row l.layout.count l.layout.first
      l.fn.solved.0 l.fn.solved.1 l.initial.words l.words;
}
