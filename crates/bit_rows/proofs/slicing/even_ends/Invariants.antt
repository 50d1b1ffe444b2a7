use Rattle.std.proofs.Common.{◌-◌}
use Rattle.bit_rows.proofs.slices.Cuts.{EvenTo}
use Rattle.bit_rows.proofs.slicing.even_ends.Given as goal

abbrev pub invariant-loop-end : goal.invariant-loop-end
invariant-loop-end l = EvenTo l.bits l.width l.ends.items l.end

abbrev pub decreases-loop-end : goal.decreases-loop-end
decreases-loop-end l = l.bits - l.end
