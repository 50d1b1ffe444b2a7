use Rattle.flow_queries.specs.code.Splits.{AreSplit}
use Rattle.flow_queries.proofs.splitting.split_queries.Given as goal

abbrev pub invariant-loop-analysis : goal.invariant-loop-analysis
invariant-loop-analysis l = AreSplit l.solvers l.queries l.split.left.items l.split.found.items
