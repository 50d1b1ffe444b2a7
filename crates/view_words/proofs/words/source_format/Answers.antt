use Rattle.std.proofs.Common.{◌∙◌, sym, ap}
use Rattle.std.specs.Prelude.{option_and_then}
use Rattle.clap.specs.Words.{found_of, rows_of}
use Rattle.view_words.specs.Commands.{has_part, has_source}
use Rattle.view_words.specs.Kinds.{with_source}
use Rattle.view_words.proofs.words.source_format.Goals as goal

pub returns-in-Some : goal.returns-in-Some
returns-in-Some c =
    let rows = rows_of (found_of c.args.matches.now) in
    c.with_source.ensures
    ∙ ap (λ is. with_source is c.has_part.result c.in-Some.format) c.has_flag.ensures
    ∙ ap (λ part. with_source (has_source rows) part c.in-Some.format) c.has_part.ensures
    ∙ ap (option_and_then (with_source (has_source rows) (has_part rows))) (sym (sym c.part_format.ensures ∙ c.in-Some.is))

pub returns-in-None : goal.returns-in-None
returns-in-None c =
    let rows = rows_of (found_of c.args.matches.now) in
    ap (option_and_then (with_source (has_source rows) (has_part rows))) (sym (sym c.part_format.ensures ∙ c.in-None.is))
