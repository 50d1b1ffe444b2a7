use Rattle.std.proofs.Common.{flat_map, take}
use Rattle.lint_texts.specs.LintTexts.{file_text, told_lines}
use Rattle.lint_texts.specs.code.Lines.{known_in}
use Rattle.text_pieces.specs.Pieces.{Writes}
use Rattle.lint_texts.proofs.lines.LintLines.write_lints.Given as goal

abbrev pub invariant-loop-placed : goal.invariant-loop-placed
invariant-loop-placed g l =
    Writes g.K.Sink l.fn.out l.out
    (flat_map (told_lines (file_text l.self.file) l.self.telling l.self.graph.now (known_in l.self)) (take l.placed-index l.lints))
