use Rattle.std.proofs.Common.{◌≡◌, ◌∙◌, ◌+◌, List, ◌∷◌, [], Option, Some, length, slice_get, ap, subst, length-append, arith}
use Rattle.flow_graph.specs.AnalysisNumbers.{analysis_number}
use Rattle.flow_graph.specs.declared.analysis.Analysis.TheVariants.{Reach}
use Rattle.flow_queries.specs.code.Packing.{IsPackedFor}
use Rattle.flow_team.proofs.facts.ByNumber.{by_number_more}
use Rattle.gen_kill.specs.Selections.{Selection}
use Rattle.flow_queries.proofs.packing.packed_solvers.Goals as goal

pub loop-analysis-preserved : goal.loop-analysis-preserved
loop-analysis-preserved c =
    let before = c.loop-analysis.invariant in
    let old : List (Option Selection) = c.loop-analysis.packed.items in
    let made : Option Selection = c.in_ok-packed_solver.field-0 in
    let longer : length c.push.new.self.items ≡ length old + 1 = ap length c.in_ok-push.ensures.items ∙ length-append old (made ∷ []) in
    record {
      count = omega (arith, longer, before.count);
      each = λ analysis packed below there.
          by_number_more (IsPackedFor c.args.graph.now c.args.queries.now) old made c.loop-analysis.analysis-index Reach before.count
          c.in_ok-packed_solver.ensures before.each analysis packed below
          (subst (λ (list : List (Option Selection)). slice_get list (analysis_number analysis) ≡ Some packed) c.in_ok-push.ensures.items there);
    }
