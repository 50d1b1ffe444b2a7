use Rattle.std.proofs.Common.{◌≡◌, ◌++◌, take, drop}
use Rattle.std.specs.List.{take_while}
use Rattle.tac_lines.specs.Text.{no_line_end}
use Rattle.lint_styles.proofs.lines.first_line.Given as goal

-- none of the bytes so far is a line feed
abbrev pub invariant-loop-i : goal.invariant-loop-i
invariant-loop-i l = take_while no_line_end l.text ≡ take l.i l.text ++ take_while no_line_end (drop l.i l.text)
