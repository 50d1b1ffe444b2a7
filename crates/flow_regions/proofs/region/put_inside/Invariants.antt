use Rattle.std.proofs.Common.{◌≡◌, ◌<◌, ℕ, length, slice_index}
use Rattle.flow_links.specs.Shapes.{directed_shape}
use Rattle.flow_regions.specs.code.Regions.{IsIn, StaysIn}
use Rattle.flow_regions.proofs.region.put_inside.Given as goal

abbrev pub invariant-loop-point : goal.invariant-loop-point
invariant-loop-point l = record {
  count : length l.inside ≡ length l.fn.inside;
  kept : StaysIn l.fn.inside l.inside;
  here : (j : ℕ) → j < l.point-index → IsIn (directed_shape l.links) l.inside (slice_index l.points j);
}
