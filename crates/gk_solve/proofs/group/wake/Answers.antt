use Rattle.std.proofs.Common.{arith}
use Rattle.worklist.specs.Worklist.{IsMarked}
use Rattle.gk_solve.proofs.visits.Listed.{each_listed}
use Rattle.gk_solve.proofs.group.wake.Goals as goal

pub returns-clause-woken : goal.returns-clause-woken
returns-clause-woken c = record {
  itself = c.loop-caller.invariant.itself;
  callers = λ z is.
      each_listed (IsMarked c.loop-caller.dirty) c.callers_of-callers.result.now 0 c.loop-caller.caller-index (omega arith)
      (λ j below. c.loop-caller.invariant.done j 0 below) z ((c.callers_of-callers.ensures.listed z).1 is);
}
