use Rattle.std.proofs.Common.{◌≡◌, ap, ◌∙◌, refl}
use Rattle.lint_commands.specs.Runs.{HasErrors, errors_text, wanted_of}
use Rattle.lint_commands.specs.declared.told.Told.TheVariants.{Errors}
use Rattle.lint_commands.proofs.Deliveries.{told_unwritten, told_written}
use Rattle.lint_texts.specs.LintTexts.{file_text}
use Rattle.refusal_texts.specs.RefusalTexts.{told_within}
use Rattle.lint_commands.proofs.runs.push_errors.Goals as goal

pub returns-in-Ok-clause-delivers : goal.returns-in-Ok-clause-delivers
returns-in-Ok-clause-delivers g c =
    let asked = c.args.asked in
    let all : c.as_slice.result.now ≡ told_within asked.limits asked.file.text.now = c.as_slice.ensures.value ∙ c.in_ok-found.ensures in
    told_written _ (HasErrors (wanted_of asked)) _ _ Errors
    (λ out is. record { are_errors = refl; is_text = is ∙ ap (errors_text asked.request.form asked.request.style (file_text asked.file)) all })
    tt c.in-Ok.ensures.delivers

pub returns-clause-delivers : goal.returns-clause-delivers
returns-clause-delivers g c =
    let asked = c.args.asked in
    let all : c.as_slice.result.now ≡ told_within asked.limits asked.file.text.now = c.as_slice.ensures.value ∙ c.in_ok-found.ensures in
    told_unwritten _ (HasErrors (wanted_of asked)) _ _ Errors
    (λ out is. record { are_errors = refl; is_text = is ∙ ap (errors_text asked.request.form asked.request.style (file_text asked.file)) all })
    c.in-Err.fault c.in-Err.ensures.delivers
