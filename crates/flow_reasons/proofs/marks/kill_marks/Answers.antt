use Rattle.std.proofs.Common.{arith}
use Rattle.std.proofs.lemmas.Grind.{common_steps}
use Rattle.flow_reasons.proofs.marks.kill_marks.Goals as goal

pub loop-point-preserved : goal.loop-point-preserved
loop-point-preserved c = grind (arith, common_steps)

pub returns : goal.returns
returns c = grind (arith, common_steps)
