use Rattle.std.proofs.Common.{List, subst, sym, take}
use Rattle.std.proofs.lemmas.List.{take_more}
use Rattle.flow_graph.specs.declared.analysis.Analysis.{Analysis}
use Rattle.flow_steps.specs.StepTexts.{AreAnalysisTexts}
use Rattle.flow_steps.proofs.told.Texts.{one_analysis_more}
use Rattle.flow_steps.proofs.step_text.lines_of.Goals as goal

pub loop-analysis-preserved : goal.loop-analysis-preserved
loop-analysis-preserved c =
    subst (λ (analyses : List Analysis). AreAnalysisTexts c.args.shown.now.found.graph.now c.args.procedure analyses c.push_lines.new.text.items)
    (sym (take_more c.args.analyses.now c.loop-analysis.analysis-index _ c.loop-analysis-test.true))
    (one_analysis_more c.args.shown.now.found.graph.now c.args.procedure (take c.loop-analysis.analysis-index c.args.analyses.now) _
    c.loop-analysis.text.items c.push_lines.new.text.items c.loop-analysis.invariant c.in_ok-push_lines.ensures)
