-- The table of an analysis at some points of a program.
use Rattle.std.specs.Prelude.{◌≡◌, ◌↔◌, ℕ, ◌<◌, ◌≤◌, true, false, length}
use Rattle.flow_graph.specs.Analyses.{HasPathAt, IsInTable}
use Rattle.flow_graph.specs.Universes.{bits as bits_of}
use Rattle.flow_graph.specs.declared.analysis.Analysis.{Analysis}
use Rattle.tac_program.specs.Programs.{Program}
use Rattle.flow_team.specs.Tables.{Facts, TableFacts, facts_of}

-- They are those of an analysis of a program at the points from one on and before another: exactly the meets over the valid paths there.
pub record AreFactsAt (program : Program) (analysis : Analysis) (from until : ℕ) (facts : Facts) : Type 0 where
  pub paths : (point : ℕ) → from ≤ point → point < until → (facts.has_path point ≡ true) ↔ HasPathAt program analysis point
  pub sets : (point bit : ℕ) → from ≤ point → point < until → bit < bits_of program analysis
      → (facts.contains point bit ≡ true) ↔ IsInTable program analysis point bit

-- The table says the facts of its analysis of this program, of all bits, at the points from one on and before another. Of the points before
-- these it says that there is no path and no bit.
pub record IsTableAt (program : Program) (from until : ℕ) (table : TableFacts) : Type 0 where
  pub points : length table.paths ≡ until
  pub bits : table.bits ≡ bits_of program table.analysis
  pub facts : AreFactsAt program table.analysis from until (facts_of table)
  pub no_path : (point : ℕ) → point < from → (facts_of table).has_path point ≡ false
  pub no_bit : (point bit : ℕ) → point < from → (facts_of table).contains point bit ≡ false
