use Rattle.std.proofs.Common.{◌∙◌, ap₂}
use Rattle.std.proofs.lemmas.Result.{IfOk-weaker}
use Rattle.clap.specs.Words.{with_rule}
use Rattle.lint_commands.proofs.words.style_command.Goals as goal

pub returns : goal.returns
returns c =
    let sourced = c.in_ok-arg.ensures.shape c.source_option.ensures.own ∙ ap₂ with_rule c.in_ok-form_command.ensures c.source_option.ensures.rule in
    IfOk-weaker c.arg-2.result _ _ (λ r adds. adds.shape c.color_option.ensures.own ∙ ap₂ with_rule sourced c.color_option.ensures.rule)
    c.arg-2.ensures
