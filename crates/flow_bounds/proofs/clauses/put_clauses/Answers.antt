use Rattle.std.proofs.lemmas.Result.{on_ok_weaker}
use Rattle.flow_bounds.proofs.telling.Points.{clauses_add}
use Rattle.flow_bounds.proofs.clauses.put_clauses.Goals as goal

pub returns : goal.returns
returns c = on_ok_weaker c.put_points.result
    (clauses_add c.args.frame.now c.requires _ _ _ _ c.in_ok-put_root.ensures c.in_ok-put_procedures.ensures) c.put_points.ensures
