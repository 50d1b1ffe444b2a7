-- The next point has its words.
use Rattle.flow_kept.specs.Facts.{IsRowWord}
use Rattle.flow_kept.proofs.buffers.Filling.{one_point}
use Rattle.flow_kept.proofs.table.put_words.Goals as goal

pub loop-row-preserved : goal.loop-row-preserved
loop-row-preserved c = record {
  filled = one_point (IsRowWord c.args.problem.now.program c.args.problem.now.analysis c.args.layout.from c.args.slice.now.lo c.args.slice.now.hi)
      c.loop-row.row c.args.layout.count c.args.layout.first c.args.solved.0 c.args.solved.1 c.args.words.now c.loop-row.words c.put_row.new.words
      c.requires.first c.requires.last c.loop-row.invariant.filled c.put_row.ensures;
}
