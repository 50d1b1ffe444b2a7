use Rattle.std.proofs.Common.{◌≡◌, length}
use Rattle.flow_regions.proofs.ranks.settle.Given as goal

abbrev pub invariant-loop : goal.invariant-loop
invariant-loop l = length l.ranks ≡ length l.fn.ranks
