use Rattle.flow_queries.specs.code.Splits.{AreSplit}
use Rattle.flow_queries.proofs.splitting.put_all_told.Given as goal

abbrev pub invariant-loop-i : goal.invariant-loop-i
invariant-loop-i l = AreSplit l.solvers l.queries l.split.left.items l.split.found.items
