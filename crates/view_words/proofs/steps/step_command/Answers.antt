use Rattle.std.proofs.Common.{◌∙◌, ap₂}
use Rattle.std.proofs.lemmas.Result.{IfOk-weaker}
use Rattle.clap.specs.Words.{with_rule}
use Rattle.view_words.proofs.steps.step_command.Goals as goal

pub returns : goal.returns
returns c =
    IfOk-weaker c.arg.result _ _
    (λ r adds. adds.shape c.steps_option.ensures.own ∙ ap₂ with_rule c.in_ok-view_command.ensures c.steps_option.ensures.rule) c.arg.ensures
