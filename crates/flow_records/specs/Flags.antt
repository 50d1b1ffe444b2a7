-- What is told of each point of a range: whether it has a valid path in an analysis's direction, and whether it is doubtful.
use Rattle.std.specs.Prelude.{◌≡◌, ℕ, ◌-◌, List, Some, None}
use Rattle.flow_graph.specs.Analyses.{HasPathAt, shape_of}
use Rattle.flow_graph.specs.Runs.{IsDoubtful}
use Rattle.flow_graph.specs.declared.analysis.Analysis.{Analysis}
use Rattle.flow_kept.specs.Facts.{AreFlagsOf, ArePointsOf}
use Rattle.tac_program.specs.Programs.{Program}
use Rattle.flow_records.specs.Faults.{IsMemoryFault}
use Rattle.flow_records.specs.Numbers.{analysis_of, end_of}
use Rattle.flow_records.specs.declared.fault.Fault.{Fault}
use Rattle.flow_records.specs.declared.fault.Fault.TheVariants as fault

-- They are those of the analysis of this number.
pub record ArePathsOfNumber (program : Program) (number from until : ℕ) (flags : List ℕ) : Type 0 where
  pub analysis : Analysis
  pub is_analysis : analysis_of number ≡ Some analysis
  pub paths : AreFlagsOf (HasPathAt program analysis) from (end_of program until) flags

-- Each tells whether its point is doubtful.
pub record AreDoubts (program : Program) (from until : ℕ) (flags : List ℕ) : Type 0 where
  pub doubts : AreFlagsOf (IsDoubtful (shape_of program)) from (end_of program until) flags

-- why there are no flags of these points in room for so many
abbrev pub IsFlagsFault : ℕ → ℕ → ℕ → Program → Fault → Type 0
IsFlagsFault from until flags program fault.BadRange = ¬ (ArePointsOf program from (end_of program until))
IsFlagsFault from until flags program fault.BadRoom =
    ArePointsOf program from (end_of program until) × (¬ (flags ≡ end_of program until - from))
IsFlagsFault from until flags program fault = IsMemoryFault fault

-- and none of an analysis by its number
abbrev pub IsPathsFault : ℕ → ℕ → ℕ → ℕ → Program → Fault → Type 0
IsPathsFault number from until flags program fault.BadAnalysis = analysis_of number ≡ None
IsPathsFault number from until flags program fault = IsFlagsFault from until flags program fault
