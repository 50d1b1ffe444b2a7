use Rattle.std.proofs.Common.{flat_map, take}
use Rattle.lint_texts.specs.LintTexts.{file_text, turn_lines}
use Rattle.text_pieces.specs.Pieces.{Writes}
use Rattle.lint_texts.proofs.lines.LintLines.write_turns.Given as goal

abbrev pub invariant-loop-turn : goal.invariant-loop-turn
invariant-loop-turn g l =
    Writes g.K.Sink l.fn.out l.out
    (flat_map (turn_lines (file_text l.self.file) l.self.telling.style l.self.graph.now) (take l.turn-index l.turns))
