use Rattle.std.proofs.Common.{◌+◌, ◌*◌, get_or, arith}
use Rattle.bit_rows.specs.Words.{has_bit}
use Rattle.gk_solve.proofs.slices.Slices.{within_bit}
use Rattle.gk_solve.proofs.solution.words_within.Goals as goal

pub returns : goal.returns
returns g c w k low small =
    within_bit (has_bit (get_or c.loop-w.words w 0) k) (64 * (c.args.frame.now.first + w) + k) c.args.lo c.args.hi
    (c.loop-w.invariant.done w k (omega (arith, low, c.loop-w-test.false)) small)
