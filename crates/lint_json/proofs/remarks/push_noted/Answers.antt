use Rattle.std.proofs.Common.{List, ℕ, ◌++◌, ap, ◌∙◌, append_assoc}
use Rattle.std.proofs.lemmas.Result.{on_ok_weaker}
use Rattle.lint_json.specs.LintJson.{lint_notes, remark_line}
use Rattle.lint_texts.specs.code.Lines.{known_in, reached_in}
use Rattle.lint_json.proofs.remarks.push_noted.Goals as goal

pub returns : goal.returns
returns c =
    let lines = c.args.lines.now in
    let line : List ℕ = remark_line c.args.name.now lines.file.text.now lines.graph.now (reached_in lines) c.args.placed in
    let notes : List ℕ = lint_notes c.args.name.now lines.file.text.now lines.telling lines.graph.now (known_in lines) c.args.placed.lint in
    on_ok_weaker c.push_notes.result
    (λ put. put ∙ ap (λ (t : List ℕ). t ++ notes) c.in_ok-push_remark.ensures ∙ append_assoc c.args.text.now.items line notes)
    c.push_notes.ensures
