use Rattle.std.proofs.Common.{List, ℕ, ◌++◌, ap, ◌∙◌}
use Rattle.lint_json.specs.RefusalJson.{error_line_of}
use Rattle.lint_json.proofs.errors.push_error.Goals as goal

pub returns : goal.returns
returns c =
    c.in_ok-extend_from_slice.ensures.items
    ∙ ap (λ (line : List ℕ). c.args.out.now.items ++ line)
    (c.as_slice-2.ensures.value ∙ c.in_ok-line.ensures
    ∙ ap (error_line_of c.args.name.now c.args.told) (c.as_slice.ensures.value ∙ c.in_ok-words.ensures))
