use Rattle.std.proofs.Common.{◌≡◌, ◌*◌, ◌/◌, ◌%◌, ◌<◌, ℕ, true, length}
use Rattle.gen_kill.specs.code.BitTables.{table_has}
use Rattle.gen_kill.specs.code.Effects.{column_depends}
use Rattle.gen_kill.specs.code.Problems.{selected}
use Rattle.gen_kill.proofs.effects.dependent_words.Given as goal

abbrev pub invariant-loop-column : goal.invariant-loop-column
invariant-loop-column l = record {
  one : l.words.width ≡ 1;
  count : length l.words.words.items ≡ length l.fn.graph.variable_names * l.words.width;
  each : (r b : ℕ) → r < length l.fn.graph.variable_names → b < l.column → column_depends (selected l.fn.graph l.fn.analysis l.fn.columns) r b ≡ true
      → table_has l.words.words.items l.words.width r (b / 64 % 64) ≡ true;
}
