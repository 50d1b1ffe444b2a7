use Rattle.std.proofs.Common.{◌≡◌, ◌∙◌, ◌++◌, List, ℕ, ap, subst}
use Rattle.flow_graph.specs.declared.analysis.Analysis.{Analysis}
use Rattle.flow_views.specs.Json.{end_line}
use Rattle.flow_views.specs.declared.view.View.{View}
use Rattle.flow_views.specs.declared.view_program.ViewProgram.{ViewProgram}
use Rattle.json_texts.specs.Changes.{named_program_line}
use Rattle.tac_program.specs.Programs.{Program}
use Rattle.flow_steps.specs.StepTexts.{AreAnalysisTexts, IsStepText, steps_line}
use Rattle.flow_steps.specs.code.Told.{head_told}
use Rattle.flow_steps.proofs.step_text.StepText.of.Goals as goal

pub returns : goal.returns
returns c =
    let shown : ViewProgram = c.in_ok-shown.shown in
    let program : Program = shown.found.graph.now in
    let lines : List ℕ = c.in_ok-lines.lines.items in
    let text : List ℕ = named_program_line program ++ c.in_ok-head.head.items ++ lines ++ end_line program shown.view in
    let head : c.in_ok-head.head.items ≡ steps_line c.in_ok-shown.shown.found.graph.now c.in_ok-shown.shown.view.facts c.args.procedure =
    c.in_ok-head.ensures ∙ ap (head_told program c.args.procedure) (c.as_slice.ensures.value ∙ c.in_ok-analyses.ensures) in
    subst (λ (p : Program). IsStepText p c.args.view text) c.in_ok-shown.ensures.program
    (subst (λ (v : View). IsStepText program v text) c.in_ok-shown.ensures.view
    record {
      procedure = c.args.procedure;
      is_shown = ap (λ (v : View). v.procedure) c.in_ok-shown.ensures.view ∙ c.requires.shown;
      lines = lines;
      are_lines = subst (λ (analyses : List Analysis). AreAnalysisTexts program c.args.procedure analyses lines)
          (c.as_slice-2.ensures.value ∙ c.in_ok-analyses.ensures) c.in_ok-lines.ensures;
      is_text = λ i. named_program_line program ++ head i ++ lines ++ end_line program shown.view;
    })
