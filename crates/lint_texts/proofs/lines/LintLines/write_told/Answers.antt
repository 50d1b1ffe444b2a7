use Rattle.std.proofs.Common.{ℕ, List, [], ◌++◌, cond, sym, ap, ◌∙◌}
use Rattle.lint_texts.specs.LintTexts.{file_text, lint_line, lint_notes, source_line}
use Rattle.lint_texts.specs.Starts.{told_at}
use Rattle.lint_texts.specs.code.Lines.{known_in, reached_in}
use Rattle.text_pieces.proofs.sinks.Taking.{takes_as, takes_then}
use Rattle.lint_texts.proofs.lines.LintLines.write_told.Goals as goal

pub returns-then-tells : goal.returns-then-tells
returns-then-tells g c =
    let self = c.args.self.now in
    let file = file_text self.file in
    let known = known_in self in
    let line : List ℕ = lint_line file self.telling.style self.graph.now (reached_in self) c.args.placed in
    let notes : List ℕ = lint_notes file self.telling self.graph.now known.uses known.ways c.args.placed.lint in
    let lines : List ℕ = line ++ source_line file self.telling.style (told_at self.file.text.now self.graph.now c.args.placed.point) ++ notes in
    takes_as _ _ _ _ (takes_then _ _ _ _ _ (takes_then _ _ _ _ _ c.write_line.ensures c.write_source.ensures) c.write_notes.ensures)
    (ap (λ start. line ++ source_line file self.telling.style start ++ notes) c.told_start.ensures
    ∙ sym (ap (λ t. cond t lines []) (sym c.tells.ensures ∙ c.if-tells.true)))
