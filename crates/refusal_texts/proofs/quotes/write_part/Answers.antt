use Rattle.std.proofs.Common.{◌++◌, codes, flat_map, length, ap}
use Rattle.text_pieces.proofs.sinks.Taking.{takes_as, takes_then}
use Rattle.lint_styles.specs.Styles.{shown_byte}
use Rattle.refusal_texts.specs.RefusalTexts.{cut_sign}
use Rattle.refusal_texts.proofs.quotes.write_part.Goals as goal

pub returns : goal.returns
returns g c =
    takes_as _ _ _ _
    (takes_then _ _ _ _ _
    (takes_then _ _ _ _ _ (takes_then _ _ _ _ _ c.write.ensures c.write_shown.ensures) c.write_cut.ensures)
    c.write-2.ensures)
    (ap (λ s. codes "`" ++ flat_map shown_byte s ++ cut_sign (length c.args.part.now) ++ codes "`") c.shown.ensures)
