use Rattle.std.proofs.Common.{◌≡◌, List, ℕ, ◌++◌, ap, ap₂, sym, subst, ◌∙◌, append_assoc, flat_map, true}
use Rattle.std.specs.Prelude.{All}
use Rattle.flow_why.specs.declared.hop.Hop.{Hop}
use Rattle.lint_json.specs.LintJson.{more_turns_line, turn_line}
use Rattle.lint_texts.specs.LintTexts.{Turns, is_turn}
use Rattle.lint_texts.specs.code.Uses.{ways_in}
use Rattle.lint_json.proofs.notes.push_told_way.Goals as goal

pub push_turns-requires-clause-turns : goal.push_turns-requires-clause-turns
push_turns-requires-clause-turns c =
    subst (λ (turns : List Hop). All (λ turn. is_turn c.args.lines.now.graph.now turn ≡ true) turns) (sym c.turns.ensures)
    (c.requires.turns c.args.variable)

pub returns : goal.returns
returns c =
    let lines = c.args.lines.now in
    let way : Turns = ways_in lines.ways.items c.args.variable in
    let old : List ℕ = c.args.text.now.items in
    let line : Hop → List ℕ = turn_line c.args.name.now lines.file.text.now lines.graph.now in
    c.in_ok-extend_from_slice.ensures.items
    ∙ ap₂ (λ (a b : List ℕ). a ++ b) (c.in_ok-push_turns.ensures ∙ ap (λ (ts : List Hop). old ++ flat_map line ts) c.turns.ensures)
    (c.as_slice.ensures.value ∙ c.in_ok-more.ensures ∙ ap (more_turns_line c.args.name.now) c.left_out.ensures)
    ∙ append_assoc old (flat_map line way.turns) (more_turns_line c.args.name.now way.left_out)
