use Rattle.std.proofs.Common.{◌≡◌, ◌<◌, length}
use Rattle.flow_graph.specs.AnalysisNumbers.{analysis_number}
use Rattle.flow_graph.specs.declared.analysis.Analysis.{Analysis}
use Rattle.flow_views.specs.ViewTables.{IsTableShown, shown_table}
use Rattle.flow_views.specs.Views.{is_chosen}
use Rattle.flow_views.proofs.view_tables.ViewTables.of.Given as goal

abbrev pub invariant-loop-analysis : goal.invariant-loop-analysis
invariant-loop-analysis g l = record {
  count : length l.tables.items ≡ l.analysis-index;
  each : (analysis : Analysis) → analysis_number analysis < l.analysis-index
      → IsTableShown l.graph analysis l.view.procedure (is_chosen l.view.facts analysis) (shown_table l.tables.items analysis);
}
