use Rattle.std.proofs.Common.{◌∙◌, ap₂}
use Rattle.std.proofs.lemmas.Result.{IfOk-weaker}
use Rattle.clap.specs.Words.{with_rule}
use Rattle.lint_commands.proofs.words.command.Goals as goal

pub returns : goal.returns
returns c =
    let styled = c.in_ok-arg.ensures.shape c.error_option.ensures.own ∙ ap₂ with_rule c.in_ok-style_command.ensures c.error_option.ensures.rule in
    let by_workers = c.in_ok-arg-2.ensures.shape c.workers_option.ensures.own ∙ ap₂ with_rule styled c.workers_option.ensures.rule in
    IfOk-weaker c.arg-3.result _ _ (λ r adds. adds.shape c.files_words.ensures.own ∙ ap₂ with_rule by_workers c.files_words.ensures.rule)
    c.arg-3.ensures
