use Rattle.std.proofs.Common.{◌∙◌, ap₂}
use Rattle.std.proofs.lemmas.Result.{IfOk-weaker}
use Rattle.clap.specs.Words.{with_rule}
use Rattle.view_words.proofs.words.picture_command.Goals as goal

pub returns : goal.returns
returns c =
    let hovering = c.in_ok-arg.ensures.shape c.facts_on_hover_option.ensures.own ∙ ap₂ with_rule c.in_ok-look_command.ensures c.facts_on_hover_option.ensures.rule in
    IfOk-weaker c.arg-2.result _ _ (λ r adds. adds.shape c.legend_option.ensures.own ∙ ap₂ with_rule hovering c.legend_option.ensures.rule)
    c.arg-2.ensures
