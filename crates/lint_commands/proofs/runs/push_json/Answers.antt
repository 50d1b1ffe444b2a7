use Rattle.std.proofs.Common.{List, ℕ, sym, subst, ◌∙◌}
use Rattle.flow_runs.proofs.deliveries.Deliveries.{delivers_as}
use Rattle.lint_json.specs.LintJson.{IsLintJson}
use Rattle.lint_texts.specs.LintTexts.{file_text}
use Rattle.lint_commands.proofs.runs.push_json.Goals as goal

pub returns-clause-delivers : goal.returns-clause-delivers
returns-clause-delivers g c =
    let shown = c.args.shown in
    delivers_as _ _ _ _ c.push_text.result
    (λ out is. subst (λ (t : List ℕ). IsLintJson (file_text shown.file) shown.telling c.args.graph.now c.args.told.now t)
    (sym (is ∙ c.as_slice.ensures.value)) c.in_ok-text.ensures)
    c.push_text.ensures.delivers
