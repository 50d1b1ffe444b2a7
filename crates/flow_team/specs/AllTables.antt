-- The tables of all analyses of a program.
use Rattle.std.specs.Prelude.{◌≡◌, List, Some, slice_get}
use Rattle.flow_graph.specs.AnalysisNumbers.{analysis_number}
use Rattle.flow_graph.specs.declared.analysis.Analysis.{Analysis}
use Rattle.tac_program.specs.Programs.{Program}
use Rattle.flow_team.specs.Tables.{IsTableOf, TableFacts}

-- The table at each analysis's number is this program's table of that analysis.
abbrev pub AreTablesOf : Program → List TableFacts → Type 0
AreTablesOf program tables = (analysis : Analysis) (table : TableFacts) → slice_get tables (analysis_number analysis) ≡ Some table
    → (table.analysis ≡ analysis) × IsTableOf program table
