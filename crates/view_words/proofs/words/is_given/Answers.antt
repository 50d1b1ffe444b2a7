use Rattle.std.proofs.Common.{◌≡◌, ◌∙◌, sym, ap, None, is_some}
use Rattle.std.specs.Prelude.{option_map}
use Rattle.clap.specs.Words.{found_of, rows_of, first_of}
use Rattle.clap.proofs.WalkLemmas.{first_value-rows}
use Rattle.view_words.proofs.words.is_given.Goals as goal

pub returns-in-None : goal.returns-in-None
returns-in-None c =
    let rows = rows_of (found_of c.args.matches.now) in
    let found : first_of c.args.name.now rows ≡ None =
    sym (first_value-rows (found_of c.args.matches.now) c.args.name.now) ∙ sym c.get_str.ensures ∙ ap (option_map (λ s. s.now)) c.in-None.is in
    sym (ap is_some found)

pub returns-in-Some : goal.returns-in-Some
returns-in-Some c =
    let rows = rows_of (found_of c.args.matches.now) in
    let found = sym (first_value-rows (found_of c.args.matches.now) c.args.name.now) ∙ sym c.get_str.ensures ∙ ap (option_map (λ s. s.now)) c.in-Some.is in
    sym (ap is_some found)
