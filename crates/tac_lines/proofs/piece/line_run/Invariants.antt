use Rattle.std.proofs.Common.{◌≡◌, ◌+◌, drop}
use Rattle.std.specs.List.{prefix_len}
use Rattle.tac_lines.specs.Text.{no_line_end}
use Rattle.tac_lines.proofs.piece.line_run.Given as goal

-- The run is what has passed and the run of the rest.
abbrev pub invariant-loop-i : goal.invariant-loop-i
invariant-loop-i l = l.i + prefix_len no_line_end (drop l.i l.bytes) ≡ prefix_len no_line_end l.bytes
