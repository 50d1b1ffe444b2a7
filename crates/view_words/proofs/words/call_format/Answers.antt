use Rattle.std.proofs.Common.{◌∙◌, sym, ap}
use Rattle.std.specs.Prelude.{option_and_then}
use Rattle.clap.specs.Words.{found_of, rows_of}
use Rattle.view_words.specs.Commands.{has_calls, is_plain}
use Rattle.view_words.specs.Kinds.{with_calls}
use Rattle.view_words.proofs.words.call_format.Goals as goal

pub returns-in-Some : goal.returns-in-Some
returns-in-Some c =
    let rows = rows_of (found_of c.args.matches.now) in
    c.with_calls.ensures
    ∙ ap (λ is. with_calls is c.is_plain.result c.in-Some.format) c.has_flag.ensures
    ∙ ap (λ plain. with_calls (has_calls rows) plain c.in-Some.format) c.is_plain.ensures
    ∙ ap (option_and_then (with_calls (has_calls rows) (is_plain rows))) (sym (sym c.shown_format.ensures ∙ c.in-Some.is))

pub returns-in-None : goal.returns-in-None
returns-in-None c =
    let rows = rows_of (found_of c.args.matches.now) in
    ap (option_and_then (with_calls (has_calls rows) (is_plain rows))) (sym (sym c.shown_format.ensures ∙ c.in-None.is))
