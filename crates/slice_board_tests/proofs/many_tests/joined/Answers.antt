use Rattle.std.proofs.lemmas.Grind.{common_steps}
use Rattle.std.proofs.Common.{arith}
use Rattle.slice_board_tests.proofs.many_tests.joined.Goals as goal

pub loop-other-preserved : goal.loop-other-preserved
loop-other-preserved g c = grind (arith, common_steps)
