use Rattle.std.proofs.Common.{List, ℕ, Bool, [], ◌++◌, ap, sym, ◌∙◌, if◌then◌else◌, flat_map}
use Rattle.std.proofs.lemmas.Result.{on_ok_weaker}
use Rattle.lint_json.specs.LintJson.{more_turns_line, turn_line}
use Rattle.lint_texts.specs.LintTexts.{Turns}
use Rattle.lint_texts.specs.code.Uses.{ways_in}
use Rattle.lint_json.proofs.notes.push_way.Goals as goal

pub returns-then-lines : goal.returns-then-lines
returns-then-lines c =
    let lines = c.args.lines.now in
    let way : Turns = ways_in lines.ways.items c.args.variable in
    let told : List ℕ = flat_map (turn_line c.args.name.now lines.file.text.now lines.graph.now) way.turns
    ++ more_turns_line c.args.name.now way.left_out in
    on_ok_weaker c.push_told_way.result
    (λ put. put ∙ ap (λ (b : Bool). c.args.text.now.items ++ (if b then told else [])) (sym c.if-lines.true))
    c.push_told_way.ensures
