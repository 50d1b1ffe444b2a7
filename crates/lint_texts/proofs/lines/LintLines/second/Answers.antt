use Rattle.std.proofs.Common.{ℕ, List, sym, subst}
use Rattle.lint_texts.specs.LintTexts.{behind_first, uses_told}
use Rattle.lint_texts.specs.code.Uses.{Follow}
use Rattle.lint_texts.specs.code.Uses.Follow.{ended}
use Rattle.lint_texts.proofs.lines.LintLines.second.Goals as goal

pub returns-in-None : goal.returns-in-None
returns-in-None c =
    let self = c.args.self.now in
    subst (λ (points : List ℕ). Follow self.uses.uses.items 0 (behind_first points))
    (sym (c.in-None.ensures (uses_told self.telling self.graph.now self.linted.now) c.requires.uses)) ended
