use Rattle.std.proofs.Common.{◌≡◌, ◌∙◌, ◌+◌, List, ◌∷◌, [], Some, length, slice_get, ap, subst, length-append, arith}
use Rattle.flow_graph.specs.AnalysisNumbers.{analysis_number}
use Rattle.flow_graph.specs.declared.analysis.Analysis.TheVariants.{Reach}
use Rattle.flow_team.specs.Tables.{IsTableOf, TableFacts}
use Rattle.flow_team.proofs.facts.ByNumber.{by_number_more, number_below}
use Rattle.flow_team.proofs.tables.Tables.of.Goals as goal

pub loop-analysis-preserved : goal.loop-analysis-preserved
loop-analysis-preserved g c =
    let before = c.loop-analysis.invariant in
    let old : List TableFacts = c.loop-analysis.tables.items in
    let table : TableFacts = c.in_ok-table_of.field-0 in
    let longer : length c.push.new.self.items ≡ length old + 1 = ap length c.in_ok-push.ensures.items ∙ length-append old (table ∷ []) in
    record {
      count = omega (arith, longer, before.count);
      each = λ analysis t below there.
          by_number_more (λ a t. (t.analysis ≡ a) × IsTableOf c.args.graph.now t) old table c.loop-analysis.analysis-index Reach before.count
          (c.in_ok-table_of.ensures.analysis, c.in_ok-table_of.ensures.table) before.each analysis t below
          (subst (λ (tables : List TableFacts). slice_get tables (analysis_number analysis) ≡ Some t) c.in_ok-push.ensures.items there);
    }

pub returns : goal.returns
returns g c = λ analysis table there.
    c.loop-analysis.invariant.each analysis table (omega (arith, number_below analysis, c.loop-analysis-test.false)) there
