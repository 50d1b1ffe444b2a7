use Rattle.std.proofs.Common.{◌∙◌}
use Rattle.std.proofs.lemmas.Result.{IfOk-weaker}
use Rattle.lint_json.specs.LintJson.{lint_json_of}
use Rattle.lint_texts.proofs.Parts.{are_ways_of, same_parts, tell_reached}
use Rattle.lint_texts.specs.code.Uses.{ways_in}
use Rattle.lint_texts.specs.code.Lines.{reached_in}
use Rattle.lint_json.proofs.texts.lint_json.Goals as goal

pub returns : goal.returns
returns c =
    let lines = c.in_ok-lines.lines in
    let made = c.in_ok-lines.ensures in
    IfOk-weaker c.lines_json.result _ _
    (λ text is. record {
      reached = reached_in lines;
      are_reached = tell_reached _ _ _ _ _ lines made.parts made.lines;
      ways = ways_in lines.ways.items;
      are_ways = are_ways_of _ _ _ _ _ lines made.parts made.lines;
      is_text = is ∙ same_parts _ _ _ _ _ lines made.parts (λ f t p l. lint_json_of f t p (reached_in lines) (ways_in lines.ways.items) l);
    })
    c.lines_json.ensures
