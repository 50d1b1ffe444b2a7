use Rattle.std.proofs.Common.{◌∙◌, ap₂}
use Rattle.std.proofs.lemmas.Result.{IfOk-weaker}
use Rattle.clap.specs.Words.{with_rule}
use Rattle.view_words.proofs.words.part_command.Goals as goal

pub returns : goal.returns
returns c =
    let marked = c.in_ok-arg.ensures.shape c.because_option.ensures.own ∙ ap₂ with_rule c.in_ok-step_command.ensures c.because_option.ensures.rule in
    let parted = c.in_ok-arg-2.ensures.shape c.part_option.ensures.own ∙ ap₂ with_rule marked c.part_option.ensures.rule in
    IfOk-weaker c.arg-3.result _ _ (λ r adds. adds.shape c.title_option.ensures.own ∙ ap₂ with_rule parted c.title_option.ensures.rule)
    c.arg-3.ensures
