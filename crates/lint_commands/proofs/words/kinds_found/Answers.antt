use Rattle.std.proofs.Common.{◌≡◌, ◌∙◌, sym, ap, Some, None, codes}
use Rattle.std.specs.Prelude.{option_map}
use Rattle.clap.specs.Words.{found_of, rows_of, first_of}
use Rattle.clap.proofs.WalkLemmas.{first_value-rows}
use Rattle.lint_commands.specs.Kinds.{kinds_queried}
use Rattle.lint_commands.proofs.words.kinds_found.Goals as goal

pub returns-in-Some : goal.returns-in-Some
returns-in-Some c =
    let rows = rows_of (found_of c.args.matches.now) in
    let found : first_of (codes "kinds") rows ≡ Some c.in-Some.list.now =
    sym (first_value-rows (found_of c.args.matches.now) (codes "kinds")) ∙ sym c.get_str.ensures ∙ ap (option_map (λ s. s.now)) c.in-Some.is in
    c.kinds_of.ensures ∙ ap kinds_queried (sym found)

pub returns-in-None : goal.returns-in-None
returns-in-None c =
    let rows = rows_of (found_of c.args.matches.now) in
    let found : first_of (codes "kinds") rows ≡ None =
    sym (first_value-rows (found_of c.args.matches.now) (codes "kinds")) ∙ sym c.get_str.ensures ∙ ap (option_map (λ s. s.now)) c.in-None.is in
    ap Some c.usual.ensures ∙ ap kinds_queried (sym found)
