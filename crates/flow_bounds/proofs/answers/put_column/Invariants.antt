use Rattle.flow_bounds.specs.Asked.{AreToldOf}
use Rattle.flow_bounds.proofs.answers.put_column.Given as goal

abbrev pub invariant-loop-number : goal.invariant-loop-number
invariant-loop-number l = AreToldOf l.asking.shared.problem.now l.asking.asks.now l.told
