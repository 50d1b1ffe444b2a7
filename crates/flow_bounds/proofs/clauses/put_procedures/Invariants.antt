use Rattle.flow_bounds.specs.Clauses.{cell_count}
use Rattle.flow_bounds.specs.code.Frames.{Adds, BelowClause, InsideClause}
use Rattle.flow_bounds.proofs.clauses.put_procedures.Given as goal

abbrev pub invariant-loop-procedure : goal.invariant-loop-procedure
invariant-loop-procedure l = Adds (cell_count l.frame) (BelowClause (InsideClause l.frame) l.procedure) l.fn.rules.items l.rules.items
