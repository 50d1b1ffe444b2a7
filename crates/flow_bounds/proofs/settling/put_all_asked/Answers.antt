use Rattle.std.proofs.Common.{◌∙◌, refl}
use Rattle.flow_bounds.proofs.settling.put_all_asked.Goals as goal

pub loop-column-init : goal.loop-column-init
loop-column-init c = record { count = refl; kept = λ p is. is }

pub loop-column-preserved : goal.loop-column-preserved
loop-column-preserved c =
    let before = c.loop-column.invariant in
    let put = c.put_asked.ensures in
    record {
      count = put.count ∙ before.count;
      kept = λ p is. put.kept p (before.kept p is);
    }
