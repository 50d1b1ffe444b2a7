use Rattle.std.proofs.Common.{◌∙◌, sym, ap}
use Rattle.std.specs.Prelude.{option_and_then}
use Rattle.clap.specs.Words.{found_of, rows_of}
use Rattle.view_words.specs.Commands.{has_procedure, has_steps}
use Rattle.view_words.specs.Kinds.{with_steps}
use Rattle.view_words.proofs.steps.step_format.Goals as goal

pub returns-in-Some : goal.returns-in-Some
returns-in-Some c =
    let rows = rows_of (found_of c.args.matches.now) in
    c.with_steps.ensures
    ∙ ap (λ is. with_steps is c.is_given.result c.in-Some.format) c.has_flag.ensures
    ∙ ap (λ one. with_steps (has_steps rows) one c.in-Some.format) c.is_given.ensures
    ∙ ap (option_and_then (with_steps (has_steps rows) (has_procedure rows))) (sym (sym c.block_format.ensures ∙ c.in-Some.is))

pub returns-in-None : goal.returns-in-None
returns-in-None c =
    let rows = rows_of (found_of c.args.matches.now) in
    ap (option_and_then (with_steps (has_steps rows) (has_procedure rows))) (sym (sym c.block_format.ensures ∙ c.in-None.is))
