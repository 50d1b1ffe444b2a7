use Rattle.std.proofs.Common.{ℕ, List, [], cond, sym, ap, ◌∙◌}
use Rattle.lint_json.specs.LintJson.{untold_line}
use Rattle.text_pieces.proofs.sinks.Taking.{takes_as}
use Rattle.lint_json.proofs.ends.write_wanted.Goals as goal

pub returns-then-has_untold : goal.returns-then-has_untold
returns-then-has_untold g c =
    let lines = c.args.lines.now in
    let told : List ℕ = untold_line c.args.name.now lines.file.text.now lines.graph.now lines.linted.now in
    takes_as _ _ _ _ c.write_untold.ensures (sym (ap (λ t. cond t told []) (sym c.has_untold.ensures ∙ c.if-has_untold.true)))
