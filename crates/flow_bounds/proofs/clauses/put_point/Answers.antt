use Rattle.std.proofs.lemmas.Result.{on_ok_weaker}
use Rattle.flow_bounds.proofs.telling.Points.{point_adds}
use Rattle.flow_bounds.proofs.clauses.put_point.Goals as goal

pub returns : goal.returns
returns c = on_ok_weaker c.put_calls.result
    (point_adds c.args.frame.now c.args.x _ _ _ c.if-not-frame-x.false c.in_ok-put_steps.ensures) c.put_calls.ensures
