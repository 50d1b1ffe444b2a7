-- The table of an analysis: at each point exactly the meet over its valid paths.
use Rattle.std.specs.Prelude.{◌≡◌, ◌↔◌, ℕ, ◌<◌, Bool, true, false, List, [], length, slice_index_or}
use Rattle.flow_graph.specs.Analyses.{HasPathAt, IsInTable}
use Rattle.flow_graph.specs.Points.{point_count}
use Rattle.flow_graph.specs.Universes.{bits as bits_of}
use Rattle.flow_graph.specs.declared.analysis.Analysis.{Analysis}
use Rattle.tac_program.specs.Programs.{Program}

-- whether each point has a valid path, and which bits are in its set
pub record Facts : Type 0 where
  pub has_path : ℕ → Bool
  pub contains : ℕ → ℕ → Bool

-- They are those of an analysis of a program: at each point and bit exactly the meet over its valid paths.
pub record AreFacts (program : Program) (analysis : Analysis) (facts : Facts) : Type 0 where
  pub paths : (point : ℕ) → point < point_count program → (facts.has_path point ≡ true) ↔ HasPathAt program analysis point
  pub sets : (point bit : ℕ) → point < point_count program → bit < bits_of program analysis
      → (facts.contains point bit ≡ true) ↔ IsInTable program analysis point bit

-- A table: its analysis, how many bits it has, for each point whether it has a path, and for each point and bit whether the bit is in its set.
pub record TableFacts : Type 0 where
  pub analysis : Analysis
  pub bits : ℕ
  pub paths : List Bool
  pub sets : List (List Bool)

-- what a table says
abbrev pub facts_of : TableFacts → Facts
facts_of table = record {
  has_path = λ point. slice_index_or table.paths point false;
  contains = λ point bit. slice_index_or (slice_index_or table.sets point []) bit false;
}

-- The table is of this program: of all its points and of all bits, it says the facts of its analysis.
pub record IsTableOf (program : Program) (table : TableFacts) : Type 0 where
  pub points : length table.paths ≡ point_count program
  pub bits : table.bits ≡ bits_of program table.analysis
  pub facts : AreFacts program table.analysis (facts_of table)
