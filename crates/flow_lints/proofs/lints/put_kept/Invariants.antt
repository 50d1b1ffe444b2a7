use Rattle.flow_lints.proofs.Fronts.{PutSoFar}
use Rattle.flow_lints.proofs.lints.put_kept.Given as goal

abbrev pub invariant-loop-at : goal.invariant-loop-at
invariant-loop-at l = PutSoFar l.point l.remarks l.from l.at l.fn.lints.items l.lints.items
