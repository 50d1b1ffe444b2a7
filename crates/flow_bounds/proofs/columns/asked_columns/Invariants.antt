use Rattle.std.proofs.Common.{◌≤◌, length}
use Rattle.flow_regions.specs.code.Lists.{AreLow}
use Rattle.flow_bounds.proofs.columns.asked_columns.Given as goal

abbrev pub invariant-loop-column : goal.invariant-loop-column
invariant-loop-column l = record {
  low : AreLow l.column l.columns.items;
  few : length l.columns.items ≤ l.column;
}
