use Rattle.std.proofs.Common.{ℕ, List, flat_map}
use Rattle.lint_texts.specs.LintTexts.{behind_first, file_text, later_lines, uses_told}
use Rattle.lint_texts.specs.code.Uses.{IsFollowed}
use Rattle.text_pieces.specs.Pieces.{Writes}
use Rattle.lint_texts.proofs.lines.LintLines.write_all_later.Given as goal

abbrev pub invariant-loop-one : goal.invariant-loop-one
invariant-loop-one g l =
    (done : List ℕ)
    × IsFollowed l.self.graph.now l.self.uses.uses.items
    (behind_first (uses_told l.self.telling l.self.graph.now l.self.linted.now l.variable)) done l.number
    × Writes g.K.Sink l.fn.out l.out (flat_map (later_lines (file_text l.self.file) l.self.telling.style l.self.graph.now l.variable) done)

abbrev pub decreases-loop-one : goal.decreases-loop-one
decreases-loop-one g l = l.number
