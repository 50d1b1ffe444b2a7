use Rattle.std.proofs.Common.{◌∷◌, ◌++◌, [], cond, codes, sym, ap, ◌∙◌}
use Rattle.lint_styles.specs.Styles.{code_of}
use Rattle.text_pieces.proofs.sinks.Taking.{takes_as, takes_then}
use Rattle.lint_styles.proofs.style.Style.write_begin.Goals as goal

pub returns-then-self : goal.returns-then-self
returns-then-self g c =
    takes_as _ _ _ _ (takes_then _ _ _ _ _ (takes_then _ _ _ _ _ c.write.ensures c.write-then-self.ensures) c.write-then-self-2.ensures)
    (ap (λ code. 27 ∷ codes "[" ++ code ++ codes "m") c.code.ensures
    ∙ sym (ap (λ t. cond t (27 ∷ codes "[" ++ code_of c.args.hue ++ codes "m") []) c.if-self.true))
