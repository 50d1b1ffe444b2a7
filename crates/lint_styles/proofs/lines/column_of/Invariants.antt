use Rattle.std.proofs.Common.{◌≡◌, ◌+◌, ◌-◌, length, reverse, take}
use Rattle.std.specs.List.{take_while}
use Rattle.tac_lines.specs.Text.{no_line_end}
use Rattle.lint_styles.proofs.lines.column_of.Given as goal

-- none of the bytes so far is a line feed
abbrev pub invariant-loop-back : goal.invariant-loop-back
invariant-loop-back l =
    length (take_while no_line_end (reverse l.before))
    ≡ l.back + length (take_while no_line_end (reverse (take (length l.before - l.back) l.before)))
