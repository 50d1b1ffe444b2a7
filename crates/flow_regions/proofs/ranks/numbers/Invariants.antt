use Rattle.std.proofs.Common.{◌≡◌, length}
use Rattle.flow_links.specs.Shapes.{directed_shape}
use Rattle.flow_regions.proofs.ranks.numbers.Given as goal

abbrev pub invariant-loop-place : goal.invariant-loop-place
invariant-loop-place l = length l.ranks.items ≡ (directed_shape l.links).procedures
