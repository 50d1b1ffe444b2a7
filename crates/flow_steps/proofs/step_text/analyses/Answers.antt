use Rattle.std.proofs.Common.{◌∙◌, ◌+◌, ◌++◌, List, drop, filter, sym}
use Rattle.std.proofs.lemmas.List.{at_drop_more}
use Rattle.flow_graph.specs.declared.analysis.Analysis.{Analysis}
use Rattle.flow_graph.specs.declared.analysis.TheConstants.Analysis as all
use Rattle.flow_views.specs.Views.{chosen_analyses, is_chosen}
use Rattle.flow_steps.proofs.told.Kept.{kept_if}
use Rattle.flow_steps.proofs.step_text.analyses.Goals as goal

pub loop-analysis-preserved : goal.loop-analysis-preserved
loop-analysis-preserved c =
    kept_if (is_chosen c.args.shown.now.view.facts) _ (drop (c.loop-analysis.analysis-index + 1) all.ALL) c.loop-analysis.list.items
    c.put_if.new.list.items
    (chosen_analyses c.args.shown.now.view.facts) c.is_told.result c.is_told.ensures c.in_ok-put_if.ensures
    (sym (at_drop_more (λ (analyses : List Analysis). c.loop-analysis.list.items ++ filter (is_chosen c.args.shown.now.view.facts) analyses) all.ALL
    c.loop-analysis.analysis-index _ c.loop-analysis-test.true) ∙ c.loop-analysis.invariant)
