use Rattle.std.proofs.Common.{◌++◌, codes, sym, ap, ◌∙◌}
use Rattle.lint_texts.specs.LintTexts.{lint_words}
use Rattle.lint_texts.specs.code.Lines.{reached_in}
use Rattle.text_pieces.proofs.sinks.Taking.{takes_as, takes_then}
use Rattle.lint_texts.proofs.lines.LintLines.write_words.Goals as goal

pub returns-in-NeverCalled : goal.returns-in-NeverCalled
returns-in-NeverCalled g c =
    takes_as _ _ _ _
    (takes_then _ _ _ _ _ (takes_then _ _ _ _ _ c.write.ensures c.write-in-NeverCalled.ensures) c.write-in-NeverCalled-2.ensures)
    (ap (λ n. codes "procedure " ++ n ++ codes " is never called") c.procedure.ensures
    ∙ ap (lint_words c.args.self.now.graph.now (reached_in c.args.self.now) c.args.placed.point) (sym c.in-NeverCalled.is))
