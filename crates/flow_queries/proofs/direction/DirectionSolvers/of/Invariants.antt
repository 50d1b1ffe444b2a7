use Rattle.std.proofs.Common.{◌≡◌, ◌<◌, ℕ, Some, length, slice_get}
use Rattle.flow_graph.specs.declared.analysis.Analysis.{Analysis}
use Rattle.flow_queries.specs.code.Directions.{selection_of}
use Rattle.flow_queries.proofs.direction.DirectionSolvers.of.Given as goal

abbrev pub invariant-loop-analysis : goal.invariant-loop-analysis
invariant-loop-analysis l = record {
  count : length l.solvers.items ≡ l.analysis-index;
  each : (k : ℕ) (analysis : Analysis) → k < l.analysis-index → slice_get l.analysis-items k ≡ Some analysis
      → slice_get l.solvers.items k ≡ Some (selection_of l.graph analysis);
}
