use Rattle.std.proofs.Common.{◌≡◌, ◌<◌, Option, Some, length, slice_get}
use Rattle.flow_graph.specs.AnalysisNumbers.{analysis_number}
use Rattle.flow_graph.specs.declared.analysis.Analysis.{Analysis}
use Rattle.flow_queries.specs.code.Packing.{IsPackedFor}
use Rattle.gen_kill.specs.Selections.{Selection}
use Rattle.flow_queries.proofs.packing.packed_solvers.Given as goal

abbrev pub invariant-loop-analysis : goal.invariant-loop-analysis
invariant-loop-analysis l = record {
  count : length l.packed.items ≡ l.analysis-index;
  each : (analysis : Analysis) (packed : Option Selection) → analysis_number analysis < l.analysis-index
      → slice_get l.packed.items (analysis_number analysis) ≡ Some packed → IsPackedFor l.graph l.queries analysis packed;
}
