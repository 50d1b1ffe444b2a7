use Rattle.std.proofs.Common.{◌≡◌, ◌∙◌, sym, ap, Option, is_some}
use Rattle.std.specs.Prelude.{option_and_then, unwrap_or}
use Rattle.clap.specs.Words.{Text}
use Rattle.view_words.specs.Kinds.{format_named}
use Rattle.flow_runs.proofs.matches.Cases.{some_of_test}
use Rattle.view_words.proofs.words.format_by.Goals as goal

pub kind_word-requires : goal.kind_word-requires
kind_word-requires c = (c.requires.0, c.requires.1)

pub unwrap-requires : goal.unwrap-requires
unwrap-requires c =
    let same : c.kind_word.result.now ≡ c.requires.0 = ap (λ (o : Option Text). unwrap_or o c.requires.0) (sym c.kind_word.ensures ∙ c.requires.1) in
    some_of_test c.format_of.result (ap is_some (c.format_of.ensures ∙ ap format_named same) ∙ c.requires.2)

pub returns : goal.returns
returns c = ap (option_and_then format_named) c.kind_word.ensures ∙ sym c.format_of.ensures ∙ c.unwrap.ensures
