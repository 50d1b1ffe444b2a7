use Rattle.std.proofs.Common.{◌≡◌, ◌-◌}
use Rattle.std.specs.List.{range_with_len}
use Rattle.block_dots.specs.BlockSets.{exposed_down}
use Rattle.block_dots.proofs.sets.Exposed.{carried}
use Rattle.block_dots.proofs.exposed.exposed_down.Given as goal

abbrev pub invariant-loop-point : goal.invariant-loop-point
invariant-loop-point l =
    exposed_down l.graph l.analysis (range_with_len l.first (l.end - l.first)) l.bit
    ≡ carried l.graph l.analysis l.bit (range_with_len l.point (l.end - l.point)) l.holds
