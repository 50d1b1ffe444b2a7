use Rattle.std.proofs.Common.{◌∙◌, [], ◌∷◌, codes}
use Rattle.tac_lines.specs.Forms.{key, procedure}
use Rattle.tac_lines.proofs.forms.LineForms.{no_front}
use Rattle.tac_lines.proofs.lex.is_proc.Goals as goal

pub returns-then-not-fits_at : goal.returns-then-not-fits_at
returns-then-not-fits_at c text =
    no_front text (key (codes "proc")) (procedure ∷ []) c.args.tokens.now (c.fits_at.ensures text ∙ c.if-not-fits_at.true)
