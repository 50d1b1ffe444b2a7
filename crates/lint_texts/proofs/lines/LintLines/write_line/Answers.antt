use Rattle.std.proofs.Common.{◌++◌, codes, ap₂}
use Rattle.lint_styles.specs.Styles.{painted}
use Rattle.lint_styles.specs.declared.style.Hue.TheVariants as hue
use Rattle.lint_texts.specs.LintTexts.{file_text, lint_words, place_words}
use Rattle.lint_texts.specs.code.Lines.{reached_in}
use Rattle.text_pieces.proofs.sinks.Taking.{takes_as, takes_then}
use Rattle.lint_texts.proofs.lines.LintLines.write_line.Goals as goal

pub returns : goal.returns
returns g c =
    let program = c.args.self.now.graph.now in
    let placed = c.args.placed in
    let words = lint_words program (reached_in c.args.self.now) placed.point placed.lint in
    takes_as _ _ _ _
    (takes_then _ _ _ _ _
    (takes_then _ _ _ _ _
    (takes_then _ _ _ _ _ (takes_then _ _ _ _ _ c.write_place.ensures c.write_painted.ensures) c.write.ensures)
    c.write_words.ensures)
    c.write-2.ensures)
    (ap₂ (λ start k. place_words (file_text c.args.self.now.file) start ++ painted c.args.self.now.telling.style hue.Remark k ++ codes ": " ++ words
    ++ codes "\n")
    c.told_start.ensures c.kind_name.ensures)
