use Rattle.std.proofs.Common.{◌≡◌, ◌<◌, Some, length, slice_get}
use Rattle.flow_graph.specs.AnalysisNumbers.{analysis_number}
use Rattle.flow_graph.specs.declared.analysis.Analysis.{Analysis}
use Rattle.flow_team.specs.Tables.{IsTableOf, TableFacts}
use Rattle.flow_team.proofs.tables.Tables.of.Given as goal

abbrev pub invariant-loop-analysis : goal.invariant-loop-analysis
invariant-loop-analysis g l = record {
  count : length l.tables.items ≡ l.analysis-index;
  each : (analysis : Analysis) (table : TableFacts) → analysis_number analysis < l.analysis-index
      → slice_get l.tables.items (analysis_number analysis) ≡ Some table → (table.analysis ≡ analysis) × IsTableOf l.graph table;
}
