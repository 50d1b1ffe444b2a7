use Rattle.std.proofs.Common.{List, ℕ, ◌++◌, ap, ◌∙◌, codes}
use Rattle.lint_json.specs.LintJson.{note_line_of}
use Rattle.lint_json.proofs.notes.push_later.Goals as goal

pub returns : goal.returns
returns c =
    let lines = c.args.lines.now in
    c.in_ok-extend_from_slice.ensures.items
    ∙ ap (λ (line : List ℕ). c.args.text.now.items ++ line)
    (c.as_slice-2.ensures.value ∙ c.in_ok-line.ensures
    ∙ ap (note_line_of (codes "later") c.args.name.now lines.file.text.now lines.graph.now c.args.point)
    (c.as_slice.ensures.value ∙ c.in_ok-words.ensures))
