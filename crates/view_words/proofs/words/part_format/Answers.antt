use Rattle.std.proofs.Common.{◌∙◌, sym, ap}
use Rattle.std.specs.Prelude.{option_and_then}
use Rattle.clap.specs.Words.{found_of, rows_of}
use Rattle.view_words.specs.Commands.{has_part, is_bare}
use Rattle.view_words.specs.Kinds.{with_part}
use Rattle.view_words.proofs.words.part_format.Goals as goal

pub returns-in-Some : goal.returns-in-Some
returns-in-Some c =
    let rows = rows_of (found_of c.args.matches.now) in
    c.with_part.ensures
    ∙ ap (λ is. with_part is c.is_bare.result c.in-Some.format) c.has_part.ensures
    ∙ ap (λ bare. with_part (has_part rows) bare c.in-Some.format) c.is_bare.ensures
    ∙ ap (option_and_then (with_part (has_part rows) (is_bare rows))) (sym (sym c.step_format.ensures ∙ c.in-Some.is))

pub returns-in-None : goal.returns-in-None
returns-in-None c =
    let rows = rows_of (found_of c.args.matches.now) in
    ap (option_and_then (with_part (has_part rows) (is_bare rows))) (sym (sym c.step_format.ensures ∙ c.in-None.is))
