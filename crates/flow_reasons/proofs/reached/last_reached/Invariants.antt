use Rattle.std.proofs.Common.{◌-◌}
use Rattle.flow_reasons.specs.Reached.{NoneReachedFrom}
use Rattle.flow_reasons.proofs.reached.last_reached.Given as goal

abbrev pub invariant-loop-back : goal.invariant-loop-back
invariant-loop-back l = NoneReachedFrom l.graph l.fn.point (l.place.place - l.back)
