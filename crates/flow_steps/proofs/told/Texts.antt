-- Lines of analyses, one behind another
use Rattle.std.proofs.Common.{◌∙◌, ℕ, List, [], ◌∷◌, ◌++◌, refl, sym, ap, append_assoc, append-nil}
use Rattle.flow_graph.specs.declared.analysis.Analysis.{Analysis}
use Rattle.tac_program.specs.Programs.{Program}
use Rattle.flow_steps.specs.StepTexts.{AreAnalysisTexts}
use Rattle.flow_steps.specs.code.Told.{HasAnalysis}

pub one_analysis_more : (program : Program) (procedure : ℕ) (analyses : List Analysis) (analysis : Analysis) (text new : List ℕ)
    → AreAnalysisTexts program procedure analyses text → HasAnalysis program procedure analysis text new
    → AreAnalysisTexts program procedure (analyses ++ analysis ∷ []) new
one_analysis_more program procedure [] analysis text new none has =
    (has.lines, [], has.are_lines, refl, has.is_text ∙ ap (λ t. t ++ has.lines) none ∙ sym (append-nil has.lines))
one_analysis_more program procedure (first ∷ others) analysis text new (front, rest, is, are, same) has = (
  front,
  rest ++ has.lines,
  is,
  one_analysis_more program procedure others analysis rest (rest ++ has.lines) are
      (record { lines = has.lines; are_lines = has.are_lines; is_text = refl }),
  has.is_text ∙ ap (λ t. t ++ has.lines) same ∙ append_assoc front rest has.lines,
)
