use Rattle.std.proofs.Common.{sym, subst}
use Rattle.flow_runs.proofs.deliveries.Deliveries.{delivers_as}
use Rattle.lint_texts.specs.LintTexts.{file_text}
use Rattle.lint_commands.specs.Runs.{IsTextOf}
use Rattle.lint_commands.specs.declared.options.Form.{Form}
use Rattle.lint_commands.proofs.runs.push_formed.Goals as goal

pub returns-in-Text-clause-delivers : goal.returns-in-Text-clause-delivers
returns-in-Text-clause-delivers g c =
    let shown = c.args.shown in
    delivers_as _ _ _ _ c.push_linted.result
    (λ out is. subst (λ (f : Form). IsTextOf f (file_text shown.file) shown.telling c.args.graph.now c.args.told.now out) (sym c.in-Text.is) is)
    c.push_linted.ensures.delivers

pub returns-in-Json-clause-delivers : goal.returns-in-Json-clause-delivers
returns-in-Json-clause-delivers g c =
    let shown = c.args.shown in
    delivers_as _ _ _ _ c.push_json.result
    (λ out is. subst (λ (f : Form). IsTextOf f (file_text shown.file) shown.telling c.args.graph.now c.args.told.now out) (sym c.in-Json.is) is)
    c.push_json.ensures.delivers
