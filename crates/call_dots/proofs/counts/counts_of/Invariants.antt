use Rattle.std.proofs.Common.{take}
use Rattle.call_dots.specs.code.Tables.{AreCounts}
use Rattle.call_dots.proofs.counts.counts_of.Given as goal

abbrev pub invariant-loop-placed : goal.invariant-loop-placed
invariant-loop-placed l = AreCounts l.fn.graph (take l.placed-index l.remarks) l.kind l.counts.items
