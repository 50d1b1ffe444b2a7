use Rattle.std.proofs.Common.{ℕ, List, [], ◌++◌, codes, cond, sym, ap, ◌∙◌}
use Rattle.text_pieces.proofs.sinks.Taking.{takes_as, takes_then}
use Rattle.text_pieces.specs.Strings.{quoted}
use Rattle.lint_json.proofs.errors.write_note.Goals as goal

pub returns-then-is_some_hint : goal.returns-then-is_some_hint
returns-then-is_some_hint g c =
    let note : List ℕ = codes ",\"note\":" ++ quoted c.args.words.now in
    takes_as _ _ _ _ (takes_then _ _ _ _ _ c.write.ensures c.write_quoted.ensures)
    (sym (ap (λ t. cond t note []) (sym c.is_some_hint.ensures ∙ c.if-is_some_hint.true)))
