use Rattle.std.proofs.Common.{slice_index}
use Rattle.flow_bounds.specs.Clauses.{StepClause, cell_count}
use Rattle.flow_bounds.specs.code.Frames.{Adds, BelowClause}
use Rattle.flow_bounds.proofs.clauses.put_steps.Given as goal

abbrev pub invariant-loop-to : goal.invariant-loop-to
invariant-loop-to l = Adds (cell_count l.frame) (BelowClause (λ j. StepClause l.frame l.x (slice_index l.steps j)) l.to-index) l.fn.rules.items l.rules.items
