use Rattle.std.proofs.Common.{◌∙◌, ap₂}
use Rattle.std.proofs.lemmas.Result.{IfOk-weaker}
use Rattle.clap.specs.Words.{with_rule}
use Rattle.view_words.proofs.words.view_command.Goals as goal

pub returns : goal.returns
returns c =
    let named = c.in_ok-arg.ensures.shape c.procedure_option.ensures.own ∙ ap₂ with_rule c.in_ok-shape_command.ensures c.procedure_option.ensures.rule in
    let with_paths = c.in_ok-arg-2.ensures.shape c.paths_option.ensures.own ∙ ap₂ with_rule named c.paths_option.ensures.rule in
    IfOk-weaker c.arg-3.result _ _ (λ r adds. adds.shape c.changes_option.ensures.own ∙ ap₂ with_rule with_paths c.changes_option.ensures.rule)
    c.arg-3.ensures
