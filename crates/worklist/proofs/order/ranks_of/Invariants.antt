use Rattle.std.proofs.Common.{◌≡◌, length}
use Rattle.worklist.proofs.order.ranks_of.Given as goal

abbrev pub invariant-loop-rank : goal.invariant-loop-rank
invariant-loop-rank l = length l.ranks.items ≡ length l.points
