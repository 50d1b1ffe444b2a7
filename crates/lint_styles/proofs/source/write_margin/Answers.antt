use Rattle.std.proofs.Common.{◌-◌, ◌++◌, decimal, ap, ◌∙◌}
use Rattle.lint_styles.specs.Styles.{blanks}
use Rattle.text_pieces.proofs.sinks.Taking.{takes_as, takes_then}
use Rattle.lint_styles.proofs.source.write_margin.Goals as goal

pub returns : goal.returns
returns g c =
    takes_as _ _ _ _ (takes_then _ _ _ _ _ c.write_blanks.ensures c.write_size.ensures)
    (ap (λ n. blanks n ++ decimal c.args.number) (c.saturating_sub.ensures ∙ ap (λ n. 5 - n) c.digits_of.ensures))
