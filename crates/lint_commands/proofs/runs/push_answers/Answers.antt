use Rattle.std.proofs.Common.{◌≡◌, ap, ◌∙◌}
use Rattle.lint_texts.specs.LintTexts.{file_text}
use Rattle.lint_commands.specs.Runs.{Lints, has_told, told_by}
use Rattle.lint_commands.proofs.Deliveries.{told_unwritten, told_written}
use Rattle.lint_commands.proofs.runs.push_answers.Goals as goal

pub returns-in-Ok-clause-delivers : goal.returns-in-Ok-clause-delivers
returns-in-Ok-clause-delivers g c =
    let shown = c.args.shown in
    let linted = c.in_ok-told.told in
    let told : c.told_by-what.result ≡ told_by (has_told shown.telling c.args.graph.now linted) = c.told_by-what.ensures ∙ ap told_by c.tells_any.ensures in
    told_written _ (Lints shown.form (file_text shown.file) shown.telling c.args.graph.now) _ _ c.told_by-what.result
    (λ out is. record { linted = linted; is_linted = c.in_ok-told.ensures; is_text = is; is_told = told })
    tt c.in-Ok.ensures.delivers

pub returns-clause-delivers : goal.returns-clause-delivers
returns-clause-delivers g c =
    let shown = c.args.shown in
    let linted = c.in_ok-told.told in
    let told : c.told_by-what.result ≡ told_by (has_told shown.telling c.args.graph.now linted) = c.told_by-what.ensures ∙ ap told_by c.tells_any.ensures in
    told_unwritten _ (Lints shown.form (file_text shown.file) shown.telling c.args.graph.now) _ _ c.told_by-what.result
    (λ out is. record { linted = linted; is_linted = c.in_ok-told.ensures; is_text = is; is_told = told })
    c.in-Err.fault c.in-Err.ensures.delivers
