use Rattle.std.proofs.Common.{sym, ap, ◌∙◌}
use Rattle.flow_runs.proofs.deliveries.Deliveries.{delivers_as}
use Rattle.lint_texts.specs.LintTexts.{file_text}
use Rattle.lint_commands.specs.Runs.{errors_text}
use Rattle.lint_commands.specs.declared.options.Form.{Form}
use Rattle.lint_commands.proofs.runs.push_refusals.Goals as goal

pub returns-in-Text-clause-delivers : goal.returns-in-Text-clause-delivers
returns-in-Text-clause-delivers g c =
    let asked = c.args.asked in
    delivers_as _ _ _ _ c.push_text.result
    (λ out is. is ∙ ap (λ (f : Form). errors_text f asked.request.style (file_text asked.file) c.args.found.now) (sym c.in-Text.is))
    c.push_text.ensures.delivers

pub returns-in-Json-clause-delivers : goal.returns-in-Json-clause-delivers
returns-in-Json-clause-delivers g c =
    let asked = c.args.asked in
    delivers_as _ _ _ _ c.push_error_json.result
    (λ out is. is ∙ ap (λ (f : Form). errors_text f asked.request.style (file_text asked.file) c.args.found.now) (sym c.in-Json.is))
    c.push_error_json.ensures.delivers
