use Rattle.std.proofs.Common.{◌≡◌, ◌+◌, length}
use Rattle.flow_links.specs.Shapes.{directed_shape}
use Rattle.flow_regions.specs.code.Lists.{AreLow}
use Rattle.flow_bounds.proofs.columns.homes.Given as goal

abbrev pub invariant-loop-column : goal.invariant-loop-column
invariant-loop-column l = record {
  count : length l.homes.items ≡ l.column-index;
  low : AreLow ((directed_shape l.asking.shared.links.now).procedures + 1) l.homes.items;
}
