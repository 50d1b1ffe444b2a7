use Rattle.flow_bounds.specs.Clauses.{cell_count}
use Rattle.flow_bounds.specs.code.Frames.{InsideClause}
use Rattle.flow_bounds.proofs.telling.Adding.{adds_more}
use Rattle.flow_bounds.proofs.clauses.put_procedures.Goals as goal

pub loop-procedure-preserved : goal.loop-procedure-preserved
loop-procedure-preserved c =
    adds_more (cell_count c.args.frame.now) (InsideClause c.args.frame.now) c.loop-procedure.procedure
    _ _ _ c.loop-procedure.invariant c.in_ok-put_procedure.ensures
