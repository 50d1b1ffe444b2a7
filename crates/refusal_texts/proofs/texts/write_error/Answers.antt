use Rattle.std.proofs.Common.{◌++◌, codes, decimal, ap₂}
use Rattle.text_pieces.proofs.sinks.Taking.{takes_as, takes_then}
use Rattle.lint_styles.specs.Styles.{painted}
use Rattle.lint_styles.specs.declared.style.Hue.TheVariants.{Error}
use Rattle.refusal_texts.specs.RefusalTexts.{place_words}
use Rattle.refusal_texts.proofs.texts.write_error.Goals as goal

pub returns : goal.returns
returns g c =
    takes_as _ _ _ _
    (takes_then _ _ _ _ _
    (takes_then _ _ _ _ _
    (takes_then _ _ _ _ _
    (takes_then _ _ _ _ _
    (takes_then _ _ _ _ _ (takes_then _ _ _ _ _ c.write_place.ensures c.write_painted.ensures) c.write.ensures)
    c.write-2.ensures)
    c.write-3.ensures)
    c.write_size.ensures)
    c.write-4.ensures)
    (ap₂ (λ words number. place_words c.args.file.now c.args.refusal ++ painted c.args.style Error (codes "error") ++ codes ": " ++ words
    ++ codes " (refusal " ++ decimal number ++ codes ")\n")
    c.kind_words.ensures c.number.ensures)
