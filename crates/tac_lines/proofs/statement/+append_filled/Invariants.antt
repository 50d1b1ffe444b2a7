use Rattle.std.proofs.Common.{length}
use Rattle.tac_lines.proofs.statement.+append_filled.Given as goal

abbrev pub decreases-append_filled : goal.decreases-append_filled
decreases-append_filled l = length l.slots.now
