use Rattle.flow_bounds.specs.Asked.{AreToldOf}
use Rattle.flow_bounds.proofs.answers.put_told.Given as goal

abbrev pub invariant-loop-place : goal.invariant-loop-place
invariant-loop-place l = AreToldOf l.asking.shared.problem.now l.asking.asks.now l.told
