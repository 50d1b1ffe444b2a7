-- The flags and words of an analysis that a number stands for.
use Rattle.std.specs.Prelude.{◌≡◌, ℕ, Some, None, List}
use Rattle.flow_graph.specs.declared.analysis.Analysis.{Analysis}
use Rattle.flow_kept.specs.Facts.{AreFactsOf}
use Rattle.tac_program.specs.Programs.{Program}
use Rattle.tac_program.specs.declared.limits.Limits.{Limits}
use Rattle.tac_reader.specs.Parses.{program_of}
use Rattle.flow_records.specs.Faults.{HasGraph, IsBadTable, IsFaultOf, IsMemoryFault}
use Rattle.flow_records.specs.Numbers.{analysis_of, end_of}
use Rattle.flow_records.specs.declared.fault.Fault.{Fault}
use Rattle.flow_records.specs.declared.fault.Fault.TheVariants as fault

-- Within limits they are those of the analysis of this number, of the text's program.
pub record AreFactsOfText (limits : Limits) (text : List ℕ) (number from until lo hi : ℕ) (flags words : List ℕ) : Type 0 where
  pub has_graph : HasGraph limits text
  pub analysis : Analysis
  pub is_analysis : analysis_of number ≡ Some analysis
  pub facts : AreFactsOf (program_of text) analysis from (end_of (program_of text) until) lo hi flags words

-- why there are none within limits, in room for so many flags and words
abbrev pub IsTableFault : Limits → List ℕ → ℕ → ℕ → ℕ → ℕ → ℕ → ℕ → ℕ → Fault → Type 0
IsTableFault limits text number from until lo hi flags words fault.BadAnalysis = analysis_of number ≡ None
IsTableFault limits text number from until lo hi flags words fault.BadRange =
    HasGraph limits text × ((analysis : Analysis) × (analysis_of number ≡ Some analysis)
    × IsBadTable (program_of text) analysis from (end_of (program_of text) until) lo hi flags words fault.BadRange)
IsTableFault limits text number from until lo hi flags words fault.BadRoom =
    HasGraph limits text × ((analysis : Analysis) × (analysis_of number ≡ Some analysis)
    × IsBadTable (program_of text) analysis from (end_of (program_of text) until) lo hi flags words fault.BadRoom)
IsTableFault limits text number from until lo hi flags words fault = IsFaultOf limits text fault

-- They are the facts of the program's analysis of this number.
pub record AreFactsOfNumber (program : Program) (number from until lo hi : ℕ) (flags words : List ℕ) : Type 0 where
  pub analysis : Analysis
  pub is_analysis : analysis_of number ≡ Some analysis
  pub facts : AreFactsOf program analysis from (end_of program until) lo hi flags words

-- why there are none, in room for so many flags and words
abbrev pub IsNumberFault : ℕ → ℕ → ℕ → ℕ → ℕ → ℕ → ℕ → Program → Fault → Type 0
IsNumberFault number from until lo hi flags words program fault.BadAnalysis = analysis_of number ≡ None
IsNumberFault number from until lo hi flags words program fault.BadRange =
    (analysis : Analysis) × (analysis_of number ≡ Some analysis)
    × IsBadTable program analysis from (end_of program until) lo hi flags words fault.BadRange
IsNumberFault number from until lo hi flags words program fault.BadRoom =
    (analysis : Analysis) × (analysis_of number ≡ Some analysis)
    × IsBadTable program analysis from (end_of program until) lo hi flags words fault.BadRoom
IsNumberFault number from until lo hi flags words program fault = IsMemoryFault fault
