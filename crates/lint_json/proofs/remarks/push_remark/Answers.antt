use Rattle.std.proofs.Common.{List, ℕ, ◌++◌, ap, ◌∙◌}
use Rattle.lint_json.specs.LintJson.{remark_line_of}
use Rattle.lint_texts.specs.code.Lines.{reached_in}
use Rattle.lint_json.proofs.remarks.push_remark.Goals as goal

pub returns : goal.returns
returns c =
    let lines = c.args.lines.now in
    c.in_ok-extend_from_slice.ensures.items
    ∙ ap (λ (line : List ℕ). c.args.text.now.items ++ line)
    (c.as_slice-2.ensures.value ∙ c.in_ok-line.ensures
    ∙ ap (remark_line_of c.args.name.now lines.file.text.now lines.graph.now (reached_in lines) c.args.placed)
    (c.as_slice.ensures.value ∙ c.in_ok-words.ensures))
