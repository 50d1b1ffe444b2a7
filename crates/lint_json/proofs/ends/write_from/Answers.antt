use Rattle.std.proofs.Common.{decimal, sym, ap, ◌∙◌}
use Rattle.lint_json.specs.LintJson.{from_line}
use Rattle.lint_texts.specs.declared.starts.Start.{Start}
use Rattle.text_pieces.proofs.sinks.Taking.{takes_as}
use Rattle.lint_json.proofs.ends.write_from.Goals as goal

pub returns-in-Some : goal.returns-in-Some
returns-in-Some g c =
    takes_as _ _ _ _ c.write_size.ensures
    (ap (λ (start : Start). decimal start.line) c.point_start.ensures
    ∙ ap (from_line c.args.lines.now.file.text.now c.args.lines.now.graph.now) (sym c.in-Some.is))
