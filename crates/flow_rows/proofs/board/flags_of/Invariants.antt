use Rattle.std.proofs.Common.{◌≡◌, take}
use Rattle.flow_rows.proofs.board.flags_of.Given as goal

abbrev pub invariant-loop-point : goal.invariant-loop-point
invariant-loop-point l = l.flags.items ≡ take l.point l.rows.flags
