use Rattle.std.proofs.Common.{◌++◌, codes, ap}
use Rattle.lint_styles.specs.Styles.{painted}
use Rattle.lint_styles.specs.declared.style.Hue.TheVariants as hue
use Rattle.lint_texts.specs.LintTexts.{file_text, place_words}
use Rattle.text_pieces.proofs.sinks.Taking.{takes_as, takes_then}
use Rattle.lint_texts.proofs.lines.LintLines.write_note_begin.Goals as goal

pub returns : goal.returns
returns g c =
    let self = c.args.self.now in
    takes_as _ _ _ _ (takes_then _ _ _ _ _ (takes_then _ _ _ _ _ c.write_place.ensures c.write_painted.ensures) c.write.ensures)
    (ap (λ start. place_words (file_text self.file) start ++ painted self.telling.style hue.Note (codes "note") ++ codes ": ") c.point_start.ensures)
