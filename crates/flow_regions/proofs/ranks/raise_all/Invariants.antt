use Rattle.std.proofs.Common.{◌≡◌, false, length}
use Rattle.flow_links.specs.Shapes.{directed_shape}
use Rattle.flow_regions.specs.code.Ranks.{AreRankedTo}
use Rattle.flow_regions.proofs.ranks.raise_all.Given as goal

abbrev pub invariant-loop-procedure : goal.invariant-loop-procedure
invariant-loop-procedure l = record {
  count : length l.ranks ≡ length l.fn.ranks;
  ranked : l.raised ≡ false → AreRankedTo (directed_shape l.links) l.ranks l.procedure;
}
