use Rattle.std.proofs.Common.{◌≡◌, ◌∙◌, ◌&&◌, refl, sym, ap, None, Option, List, ℕ, Bool, bytes_eq, codes, false, true, not, is_some}
use Rattle.std.specs.Prelude.{option_map}
use Rattle.std.specs.Option.{option_map_or}
use Rattle.clap.specs.Words.{found_of, rows_of, first_of}
use Rattle.clap.proofs.WalkLemmas.{first_value-rows}
use Rattle.view_words.proofs.words.is_bare.Goals as goal

-- a test behind another: one that fails, and one that holds
and_none : (a b : Bool) → b ≡ false → false ≡ (a && b)
and_none true b is = sym is
and_none false b is = refl

and_all : (a b : Bool) → b ≡ true → a ≡ (a && b)
and_all true b is = sym is
and_all false b is = refl

pub returns-in-Some : goal.returns-in-Some
returns-in-Some c =
    let rows = rows_of (found_of c.args.matches.now) in
    let found = sym (first_value-rows (found_of c.args.matches.now) (codes "procedure")) ∙ sym c.get_str.ensures ∙ ap (option_map (λ s. s.now)) c.in-Some.is in
    and_none (option_map_or (λ list. bytes_eq list (codes "none")) (first_of (codes "facts") rows) false)
    (not (is_some (first_of (codes "procedure") rows))) (ap (λ o. not (is_some o)) found)

pub returns-in-None : goal.returns-in-None
returns-in-None c =
    let rows = rows_of (found_of c.args.matches.now) in
    let found : first_of (codes "procedure") rows ≡ None =
    sym (first_value-rows (found_of c.args.matches.now) (codes "procedure")) ∙ sym c.get_str.ensures ∙ ap (option_map (λ s. s.now)) c.in-None.is in
    c.has_no_facts.ensures ∙ and_all (option_map_or (λ list. bytes_eq list (codes "none")) (first_of (codes "facts") rows) false)
    (not (is_some (first_of (codes "procedure") rows))) (ap (λ (o : Option (List ℕ)). not (is_some o)) found)
