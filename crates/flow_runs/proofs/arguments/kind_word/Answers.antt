use Rattle.std.proofs.Common.{◌≡◌, ◌∙◌, rules, sym, ap, Option, Some, None}
use Rattle.std.specs.Prelude.{IsSome, option_map}
use Rattle.std.specs.Borrow.{Bor}
use Rattle.clap.specs.Words.{Text, found_of}
use Rattle.clap.proofs.WalkLemmas.{first_value-rows}
use Rattle.flow_runs.proofs.arguments.kind_word.Goals as goal

some_of_map : (o : Option (Bor Text)) (t : Text) → option_map (λ s. s.now) o ≡ Some t → IsSome o
some_of_map None t e = cc
some_of_map (Some s) t e = search rules

pub unwrap-requires : goal.unwrap-requires
unwrap-requires c =
    some_of_map c.get_str.result c.requires.0 (c.get_str.ensures ∙ first_value-rows (found_of c.args.matches.now) c.args.name.now ∙ c.requires.1)

pub returns : goal.returns
returns c =
    sym (first_value-rows (found_of c.args.matches.now) c.args.name.now) ∙ sym c.get_str.ensures ∙ ap (option_map (λ s. s.now)) c.unwrap.ensures
