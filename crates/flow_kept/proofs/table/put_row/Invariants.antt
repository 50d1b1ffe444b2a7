-- The words before the next one are told.
use Rattle.std.proofs.Common.{◌*◌}
use Rattle.flow_kept.specs.Facts.{IsRowWord}
use Rattle.flow_kept.specs.code.Filled.{IsRowFilled}
use Rattle.flow_kept.proofs.table.put_row.Given as goal

abbrev pub invariant-loop-word : goal.invariant-loop-word
invariant-loop-word l = record {
  filled : IsRowFilled (IsRowWord l.problem.program l.problem.analysis l.layout.from l.slice.lo l.slice.hi l.row) (l.row * l.layout.count)
      l.layout.first
      l.fn.solved.0 l.word l.initial.words l.words;
}
