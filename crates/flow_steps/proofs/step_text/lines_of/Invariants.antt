use Rattle.std.proofs.Common.{take}
use Rattle.flow_steps.specs.StepTexts.{AreAnalysisTexts}
use Rattle.flow_steps.proofs.step_text.lines_of.Given as goal

abbrev pub invariant-loop-analysis : goal.invariant-loop-analysis
invariant-loop-analysis l = AreAnalysisTexts l.shown.found.graph.now l.procedure (take l.analysis-index l.analyses) l.text.items
