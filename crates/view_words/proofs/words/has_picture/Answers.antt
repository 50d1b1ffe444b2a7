use Rattle.std.proofs.Common.{◌≡◌, ◌∙◌, ◌||◌, sym, ap, None, Option, List, ℕ, codes, is_some}
use Rattle.std.specs.Prelude.{option_map}
use Rattle.clap.specs.Words.{found_of, rows_of, first_of}
use Rattle.clap.proofs.WalkLemmas.{first_value-rows}
use Rattle.view_words.specs.Commands.{has_look, look_queried}
use Rattle.view_words.proofs.words.has_picture.Goals as goal

pub returns-in-None : goal.returns-in-None
returns-in-None c =
    let rows = rows_of (found_of c.args.matches.now) in
    let found : first_of (codes "because") rows ≡ None =
    sym (first_value-rows (found_of c.args.matches.now) (codes "because")) ∙ sym c.get_str.ensures ∙ ap (option_map (λ s. s.now)) c.in-None.is in
    c.has_look.ensures ∙ ap has_look c.look_found.ensures
    ∙ sym (ap (λ (o : Option (List ℕ)). is_some o || has_look (look_queried rows)) found)

pub returns-in-Some : goal.returns-in-Some
returns-in-Some c =
    let rows = rows_of (found_of c.args.matches.now) in
    let found = sym (first_value-rows (found_of c.args.matches.now) (codes "because")) ∙ sym c.get_str.ensures ∙ ap (option_map (λ s. s.now)) c.in-Some.is in
    sym (ap (λ (o : Option (List ℕ)). is_some o || has_look (look_queried rows)) found)
