use Rattle.std.proofs.Common.{◌+◌, ◌-◌, ◌*◌}
use Rattle.slice_board.proofs.workers.+fn-run_threads-join+arg3+run_threads.Given as goal

abbrev pub decreases-join+arg3 : goal.decreases-join+arg3
decreases-join+arg3 g l = 2 * (l.team.now.workers - l.next) + 1

abbrev pub decreases-run_threads : goal.decreases-run_threads
decreases-run_threads g l = 2 * (l.team.now.workers - l.from)
