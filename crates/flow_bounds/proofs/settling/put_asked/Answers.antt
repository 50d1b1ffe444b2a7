use Rattle.std.proofs.Common.{◌∙◌, refl}
use Rattle.flow_bounds.proofs.settling.put_asked.Goals as goal

pub loop-number-init : goal.loop-number-init
loop-number-init c = record { count = refl; kept = λ p is. is }

pub loop-number-preserved : goal.loop-number-preserved
loop-number-preserved c =
    let before = c.loop-number.invariant in
    let put = c.put_asked_one.ensures in
    record {
      count = put.count ∙ before.count;
      kept = λ p is. put.kept p (before.kept p is);
    }
