use Rattle.std.proofs.Common.{◌∙◌, ◌&&◌, Bool, codes, not, ap}
use Rattle.clap.specs.Words.{found_of, rows_of}
use Rattle.view_words.specs.Commands.{is_given, look_queried, looks_at_facts, shows_no_facts}
use Rattle.view_words.proofs.words.is_plain.Goals as goal

pub returns : goal.returns
returns c =
    let rows = rows_of (found_of c.args.matches.now) in
    let named : Bool = is_given (codes "procedure") rows in
    c.only_first.ensures
    ∙ ap (λ none. none && not c.looks_at_facts.result && not c.is_given.result && not c.is_given-2.result) c.shows_no_facts.ensures
    ∙ ap (λ facts. shows_no_facts rows && not facts && not c.is_given.result && not c.is_given-2.result)
    (c.looks_at_facts.ensures ∙ ap looks_at_facts c.look_found.ensures)
    ∙ ap (λ one. shows_no_facts rows && not (looks_at_facts (look_queried rows)) && not one && not c.is_given-2.result) c.is_given.ensures
    ∙ ap (λ path. shows_no_facts rows && not (looks_at_facts (look_queried rows)) && not named && not path) c.is_given-2.ensures
