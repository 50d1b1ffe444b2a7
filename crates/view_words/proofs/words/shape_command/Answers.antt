use Rattle.std.proofs.Common.{◌∙◌, ap₂}
use Rattle.std.proofs.lemmas.Result.{IfOk-weaker}
use Rattle.clap.specs.Words.{with_rule}
use Rattle.view_words.proofs.words.shape_command.Goals as goal

pub returns : goal.returns
returns c =
    let calling = c.in_ok-arg.ensures.shape c.calls_option.ensures.own ∙ ap₂ with_rule c.in_ok-picture_command.ensures c.calls_option.ensures.rule in
    IfOk-weaker c.arg-2.result _ _ (λ r adds. adds.shape c.blocks_option.ensures.own ∙ ap₂ with_rule calling c.blocks_option.ensures.rule)
    c.arg-2.ensures
