use Rattle.std.proofs.Common.{◌≡◌, ◌<◌, ℕ, length, slice_index}
use Rattle.flow_links.specs.Shapes.{directed_shape}
use Rattle.flow_regions.specs.code.Lists.{AreLow}
use Rattle.flow_regions.proofs.region.procedures_of.Given as goal

abbrev pub invariant-loop-point : goal.invariant-loop-point
invariant-loop-point l = record {
  count : length l.keys.items ≡ l.point-index;
  low : AreLow (directed_shape l.links).procedures l.keys.items;
  each : (j : ℕ) → j < l.point-index → slice_index l.keys.items j ≡ (directed_shape l.links).procedure_of (slice_index l.points j);
}
