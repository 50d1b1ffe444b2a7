use Rattle.std.proofs.Common.{◌++◌, codes, decimal, sym, ap, ◌∙◌}
use Rattle.lint_texts.specs.LintTexts.{endless_words}
use Rattle.lint_texts.specs.declared.starts.Start.{Start}
use Rattle.text_pieces.proofs.sinks.Taking.{takes_as, takes_then}
use Rattle.lint_texts.proofs.lines.LintLines.write_endless.Goals as goal

pub returns-in-Some : goal.returns-in-Some
returns-in-Some g c =
    takes_as _ _ _ _ (takes_then _ _ _ _ _ (takes_then _ _ _ _ _ c.write.ensures c.write_number.ensures) c.write-in-Some.ensures)
    (ap (λ (start : Start). codes " (from line " ++ decimal start.line ++ codes " on)") c.point_start.ensures
    ∙ ap (endless_words c.args.self.now.file.text.now c.args.self.now.graph.now) (sym c.in-Some.is))
