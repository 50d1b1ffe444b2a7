use Rattle.std.proofs.Common.{◌≡◌, ◌-◌}
use Rattle.std.specs.List.{range_with_len}
use Rattle.block_dots.specs.BlockSets.{exposed_up}
use Rattle.block_dots.proofs.exposed.exposed_up.Given as goal

abbrev pub invariant-loop-point : goal.invariant-loop-point
invariant-loop-point l =
    exposed_up l.graph l.analysis (range_with_len l.first (l.end - l.first)) l.bit
    ≡ exposed_up l.graph l.analysis (range_with_len l.point (l.end - l.point)) l.bit
