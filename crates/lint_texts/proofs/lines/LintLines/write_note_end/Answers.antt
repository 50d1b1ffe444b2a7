use Rattle.std.proofs.Common.{◌++◌, codes, ap}
use Rattle.lint_texts.specs.LintTexts.{file_text, source_line}
use Rattle.text_pieces.proofs.sinks.Taking.{takes_as, takes_then}
use Rattle.lint_texts.proofs.lines.LintLines.write_note_end.Goals as goal

pub returns : goal.returns
returns g c =
    let self = c.args.self.now in
    takes_as _ _ _ _ (takes_then _ _ _ _ _ c.write.ensures c.write_source.ensures)
    (ap (λ start. codes "\n" ++ source_line (file_text self.file) self.telling.style start) c.point_start.ensures)
