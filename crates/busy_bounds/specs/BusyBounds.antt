-- Bounds from above of the very busy expressions at a point.
use Rattle.std.specs.Prelude.{◌≡◌, ◌+◌, ◌*◌, ◌<◌, ◌≤◌, ℕ, true}
use Rattle.bit_rows.specs.Words.{has_bit}
use Rattle.flow_graph.specs.Analyses.{IsInTable}
use Rattle.flow_graph.specs.Universes.{bits}
use Rattle.flow_graph.specs.declared.analysis.Analysis.TheVariants.{Busy}
use Rattle.tac_program.specs.Programs.{Program}

-- No expression of the words from one on and before another is very busy at the point.
abbrev pub NoneVeryBusy : Program → ℕ → ℕ → ℕ → Type 0
NoneVeryBusy program point from until =
    (bit : ℕ) → 64 * from ≤ bit → bit < 64 * until → bit < bits program Busy → ¬ (IsInTable program Busy point bit)

-- The mask has each expression of a word that is very busy at the point.
abbrev pub HasAllBusy : Program → ℕ → ℕ → ℕ → Type 0
HasAllBusy program point word mask =
    (k : ℕ) → k < 64 → 64 * word + k < bits program Busy → IsInTable program Busy point (64 * word + k) → has_bit mask k ≡ true

-- The word is one from the first on and before another, and none behind it has an expression that is very busy at the point.
pub record IsLastWord (program : Program) (point from until word : ℕ) : Type 0 where
  pub past : from ≤ word
  pub before : word < until
  pub none_behind : NoneVeryBusy program point (word + 1) until
