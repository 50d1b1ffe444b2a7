use Rattle.std.proofs.Common.{◌<◌, ℕ, slice_index}
use Rattle.flow_regions.specs.code.Touches.{IsMarked}
use Rattle.flow_regions.proofs.spread.are_marked.Given as goal

abbrev pub invariant-loop-column : goal.invariant-loop-column
invariant-loop-column l = (k : ℕ) → k < l.column-index → IsMarked l.marked (slice_index l.columns k)
