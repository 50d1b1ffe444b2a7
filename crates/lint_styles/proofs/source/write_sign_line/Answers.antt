use Rattle.std.proofs.Common.{◌++◌, codes, flat_map, ap}
use Rattle.lint_styles.specs.Styles.{below_byte, blanks, painted}
use Rattle.lint_styles.specs.declared.style.Hue.TheVariants.{Caret}
use Rattle.lint_styles.proofs.Behind.{length-margin}
use Rattle.text_pieces.proofs.sinks.Taking.{takes_as, takes_then}
use Rattle.lint_styles.proofs.source.write_sign_line.Goals as goal

pub returns : goal.returns
returns g c =
    takes_as _ _ _ _
    (takes_then _ _ _ _ _
    (takes_then _ _ _ _ _
    (takes_then _ _ _ _ _ (takes_then _ _ _ _ _ c.write_blanks.ensures c.write.ensures) c.write_below.ensures)
    c.write_painted.ensures)
    c.write-2.ensures)
    (ap (λ width. blanks width ++ codes " | " ++ flat_map below_byte c.args.before.now ++ painted c.args.style Caret (codes "^") ++ codes "\n")
    (length-margin c.args.number c.digits_of.result c.max.result c.digits_of.ensures c.max.ensures))
