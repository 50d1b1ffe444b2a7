use Rattle.std.proofs.Common.{◌≡◌, ◌+◌, drop}
use Rattle.std.specs.List.{prefix_len}
use Rattle.tac_program.specs.Spelling.{is_digit}
use Rattle.tac_lines.proofs.piece.digit_run.Given as goal

-- The run is what has passed and the run of the rest.
abbrev pub invariant-loop-i : goal.invariant-loop-i
invariant-loop-i l = l.i + prefix_len is_digit (drop l.i l.bytes) ≡ prefix_len is_digit l.bytes
