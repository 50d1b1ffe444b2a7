use Rattle.std.proofs.Common.{◌≡◌, length}
use Rattle.gen_kill.specs.Selections.{column_count}
use Rattle.flow_regions.specs.code.Lists.{AreLow}
use Rattle.flow_bounds.proofs.columns.columns_of.Given as goal

abbrev pub invariant-loop-ask : goal.invariant-loop-ask
invariant-loop-ask l = record {
  count : length l.columns.items ≡ l.ask-index;
  low : AreLow (column_count l.problem) l.columns.items;
}
