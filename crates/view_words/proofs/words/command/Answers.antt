use Rattle.std.proofs.Common.{◌∙◌, ap₂}
use Rattle.std.proofs.lemmas.Result.{IfOk-weaker}
use Rattle.clap.specs.Words.{with_rule}
use Rattle.view_words.proofs.words.command.Goals as goal

pub returns : goal.returns
returns c =
    let limited = c.in_ok-arg.ensures.shape c.limits_option.ensures.own ∙ ap₂ with_rule c.in_ok-source_command.ensures c.limits_option.ensures.rule in
    let with_workers = c.in_ok-arg-2.ensures.shape c.workers_option.ensures.own ∙ ap₂ with_rule limited c.workers_option.ensures.rule in
    IfOk-weaker c.arg-3.result _ _ (λ r adds. adds.shape c.cut_option.ensures.own ∙ ap₂ with_rule with_workers c.cut_option.ensures.rule)
    c.arg-3.ensures
