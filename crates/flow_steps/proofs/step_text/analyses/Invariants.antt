use Rattle.std.proofs.Common.{◌≡◌, ◌++◌, drop, filter}
use Rattle.flow_graph.specs.declared.analysis.TheConstants.Analysis as all
use Rattle.flow_views.specs.Views.{chosen_analyses, is_chosen}
use Rattle.flow_steps.proofs.step_text.analyses.Given as goal

abbrev pub invariant-loop-analysis : goal.invariant-loop-analysis
invariant-loop-analysis l =
    l.list.items ++ filter (is_chosen l.shown.view.facts) (drop l.analysis-index all.ALL) ≡ chosen_analyses l.shown.view.facts
