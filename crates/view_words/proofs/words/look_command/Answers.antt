use Rattle.std.proofs.Common.{◌∙◌, ap₂}
use Rattle.std.proofs.lemmas.Result.{IfOk-weaker}
use Rattle.clap.specs.Words.{with_rule}
use Rattle.view_words.proofs.words.look_command.Goals as goal

pub returns : goal.returns
returns c =
    let hidden = c.in_ok-arg.ensures.shape c.hide_entry_option.ensures.own ∙ ap₂ with_rule c.in_ok-form_command.ensures c.hide_entry_option.ensures.rule in
    IfOk-weaker c.arg-2.result _ _ (λ r adds. adds.shape c.facts_behind_option.ensures.own ∙ ap₂ with_rule hidden c.facts_behind_option.ensures.rule)
    c.arg-2.ensures
