use Rattle.std.proofs.Common.{◌∙◌, ap₂}
use Rattle.std.proofs.lemmas.Result.{IfOk-weaker}
use Rattle.clap.specs.Words.{with_rule}
use Rattle.lint_commands.proofs.words.form_command.Goals as goal

pub returns : goal.returns
returns c =
    let explained = c.in_ok-arg.ensures.shape c.why_option.ensures.own ∙ ap₂ with_rule c.in_ok-kinds_command.ensures c.why_option.ensures.rule in
    IfOk-weaker c.arg-2.result _ _ (λ r adds. adds.shape c.format_option.ensures.own ∙ ap₂ with_rule explained c.format_option.ensures.rule)
    c.arg-2.ensures
