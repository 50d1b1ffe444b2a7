use Rattle.std.proofs.Common.{◌≡◌, ◌∙◌, sym, ap, None, Some, Option, List, ℕ, bytes_eq, codes, true}
use Rattle.std.specs.Prelude.{option_map}
use Rattle.std.specs.Option.{option_map_or}
use Rattle.clap.specs.Words.{found_of, rows_of, first_of}
use Rattle.clap.proofs.WalkLemmas.{first_value-rows}
use Rattle.view_words.proofs.words.shows_no_facts.Goals as goal

pub returns-in-None : goal.returns-in-None
returns-in-None c =
    let rows = rows_of (found_of c.args.matches.now) in
    let found : first_of (codes "facts") rows ≡ None =
    sym (first_value-rows (found_of c.args.matches.now) (codes "facts")) ∙ sym c.get_str.ensures ∙ ap (option_map (λ s. s.now)) c.in-None.is in
    sym (ap (λ (o : Option (List ℕ)). option_map_or (λ list. bytes_eq list (codes "none")) o true) found)

pub returns-in-Some : goal.returns-in-Some
returns-in-Some c =
    let rows = rows_of (found_of c.args.matches.now) in
    let found : first_of (codes "facts") rows ≡ Some c.in-Some.list.now =
    sym (first_value-rows (found_of c.args.matches.now) (codes "facts")) ∙ sym c.get_str.ensures ∙ ap (option_map (λ s. s.now)) c.in-Some.is in
    c.eq.ensures ∙ sym (ap (λ (o : Option (List ℕ)). option_map_or (λ list. bytes_eq list (codes "none")) o true) found)
