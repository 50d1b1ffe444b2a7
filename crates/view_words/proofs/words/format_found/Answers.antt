use Rattle.std.proofs.Common.{◌∙◌, sym, ap}
use Rattle.std.specs.Prelude.{option_and_then}
use Rattle.clap.specs.Words.{found_of, rows_of}
use Rattle.view_words.specs.Commands.{has_title}
use Rattle.view_words.specs.Kinds.{with_title}
use Rattle.view_words.proofs.words.format_found.Goals as goal

pub returns-in-Some : goal.returns-in-Some
returns-in-Some c =
    let rows = rows_of (found_of c.args.matches.now) in
    c.with_title.ensures
    ∙ ap (λ is. with_title is c.in-Some.format) c.has_title.ensures
    ∙ ap (option_and_then (with_title (has_title rows))) (sym (sym c.source_format.ensures ∙ c.in-Some.is))

pub returns-in-None : goal.returns-in-None
returns-in-None c =
    let rows = rows_of (found_of c.args.matches.now) in
    ap (option_and_then (with_title (has_title rows))) (sym (sym c.source_format.ensures ∙ c.in-None.is))
