use Rattle.std.proofs.Common.{◌≡◌, ◌∙◌, sym, ap, Some, None, codes, false}
use Rattle.std.specs.Prelude.{bytes_eq, option_map}
use Rattle.std.specs.Option.{option_map_or}
use Rattle.clap.specs.Words.{found_of, rows_of, first_of}
use Rattle.clap.proofs.WalkLemmas.{first_value-rows}
use Rattle.flow_runs.proofs.arguments.has_flag.Goals as goal

pub returns-in-None : goal.returns-in-None
returns-in-None c =
    let rows = rows_of (found_of c.args.matches.now) in
    let found : first_of c.args.name.now rows ≡ None =
    sym (first_value-rows (found_of c.args.matches.now) c.args.name.now) ∙ sym c.get_str.ensures ∙ ap (option_map (λ s. s.now)) c.in-None.is in
    sym (ap (λ o. option_map_or (λ word. bytes_eq word (codes "true")) o false) found)

pub returns-in-Some : goal.returns-in-Some
returns-in-Some c =
    let rows = rows_of (found_of c.args.matches.now) in
    let found : first_of c.args.name.now rows ≡ Some c.in-Some.word.now =
    sym (first_value-rows (found_of c.args.matches.now) c.args.name.now) ∙ sym c.get_str.ensures ∙ ap (option_map (λ s. s.now)) c.in-Some.is in
    c.eq.ensures ∙ sym (ap (λ o. option_map_or (λ word. bytes_eq word (codes "true")) o false) found)
