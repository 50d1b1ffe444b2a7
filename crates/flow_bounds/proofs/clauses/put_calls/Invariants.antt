use Rattle.flow_bounds.specs.Clauses.{cell_count}
use Rattle.flow_bounds.specs.code.Frames.{Adds, BelowClause, CallClause}
use Rattle.flow_bounds.proofs.clauses.put_calls.Given as goal

abbrev pub invariant-loop-link : goal.invariant-loop-link
invariant-loop-link l = Adds (cell_count l.frame) (BelowClause (CallClause l.frame l.x l.calls) l.link-index) l.fn.rules.items l.rules.items
