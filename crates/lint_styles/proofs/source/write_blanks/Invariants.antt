use Rattle.text_pieces.specs.Pieces.{Writes}
use Rattle.lint_styles.specs.Styles.{blanks}
use Rattle.lint_styles.proofs.source.write_blanks.Given as goal

abbrev pub invariant-loop-i : goal.invariant-loop-i
invariant-loop-i g l = Writes g.K.Sink l.fn.out l.out (blanks l._i)
