use Rattle.std.proofs.Common.{ℕ, List, [], Option, Some, None, ◌∙◌, ap, sym}
use Rattle.lint_texts.specs.LintTexts.{file_text, use_notes, uses_told}
use Rattle.lint_texts.specs.code.Uses.{ways_in}
use Rattle.text_pieces.proofs.sinks.Taking.{takes_as, takes_then}
use Rattle.lint_texts.proofs.lines.LintLines.write_notes.Goals as goal

pub returns-in-Some : goal.returns-in-Some
returns-in-Some g c =
    let self = c.args.self.now in
    takes_as _ _ _ _ (takes_then _ _ _ _ _ c.write_way.ensures c.write_all_later.ensures)
    (ap (λ (o : Option ℕ). elim o [
      | Some v ↦ use_notes (file_text self.file) self.telling self.graph.now (uses_told self.telling self.graph.now self.linted.now) (ways_in self.ways.items) v
      | None ↦ []
    ]) (sym c.in-Some.is ∙ c.unset_variable.ensures))
