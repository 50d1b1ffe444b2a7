use Rattle.std.proofs.Common.{◌≡◌, ◌+◌, ◌/◌, ◌<◌, ◌&&◌, ℕ, length, nat_lt}
use Rattle.gen_kill.specs.code.BitTables.{table_has}
use Rattle.gen_kill.specs.code.Effects.{column_depends}
use Rattle.gen_kill.specs.code.Problems.{selected}
use Rattle.gen_kill.proofs.effects.put_dependence.Given as goal

abbrev pub invariant-loop-place : goal.invariant-loop-place
invariant-loop-place l = record {
  width : l.table.width ≡ l.fn.table.width;
  count : length l.table.words.items ≡ length l.fn.table.words.items;
  each : (r b : ℕ) → r < length l.fn.graph.variable_names → b / 64 < l.table.width
      → table_has l.table.words.items l.table.width r b
      ≡ (nat_lt b l.place && column_depends (selected l.fn.graph l.fn.analysis l.fn.columns) r (l.fn.from + b));
}
