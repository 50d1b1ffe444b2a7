use Rattle.std.proofs.Common.{List, ℕ, Bool, [], ◌++◌, ap, sym, ◌∙◌, if◌then◌else◌}
use Rattle.std.proofs.lemmas.Result.{on_ok_weaker}
use Rattle.lint_json.specs.LintJson.{lint_notes, remark_line}
use Rattle.lint_texts.specs.code.Lines.{known_in, reached_in}
use Rattle.lint_json.proofs.remarks.push_told.Goals as goal

pub returns-then-tells : goal.returns-then-tells
returns-then-tells c =
    let lines = c.args.lines.now in
    let told : List ℕ = remark_line c.args.name.now lines.file.text.now lines.graph.now (reached_in lines) c.args.placed
    ++ lint_notes c.args.name.now lines.file.text.now lines.telling lines.graph.now (known_in lines) c.args.placed.lint in
    on_ok_weaker c.push_noted.result
    (λ put. put ∙ ap (λ (b : Bool). c.args.text.now.items ++ (if b then told else [])) (sym c.if-tells.true ∙ c.tells.ensures))
    c.push_noted.ensures
