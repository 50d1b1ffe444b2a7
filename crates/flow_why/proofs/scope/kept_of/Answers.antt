use Rattle.std.proofs.Common.{◌+◌, List, Bool, length, sym, ap, ◌∙◌, subst}
use Rattle.flow_links.specs.Shapes.{directed_shape}
use Rattle.flow_why.specs.code.Frames.{transfer_for}
use Rattle.flow_why.specs.code.Scopes.{AreClosedUp, AreKept}
use Rattle.summary_equations.specs.Equations.{Preserved}
use Rattle.flow_why.proofs.solutions.Keeping.{more_kept, size_more}
use Rattle.flow_why.proofs.scope.kept_of.Goals as goal

pub keeps-requires-clause-closed : goal.keeps-requires-clause-closed
keeps-requires-clause-closed c =
    subst (λ (m : List Bool). AreClosedUp (directed_shape c.args.frame.now.links.now) m) (sym c.as_slice.ensures.value) c.in_ok-touched-2.ensures.closed

pub loop-procedure-preserved : goal.loop-procedure-preserved
loop-procedure-preserved c =
    let frame = c.args.frame.now in
    let shape = directed_shape frame.links.now in
    let kept = c.loop-procedure.kept.items in
    let put = c.in_ok-put_mark.ensures in record {
      count = ap length put ∙ (size_more kept c.keeps.result ∙ ap (λ n. n + 1) c.loop-procedure.invariant.count);
      kept = subst (λ (m : List Bool). AreKept shape (transfer_for frame) m) (sym put)
          (more_kept shape (transfer_for frame) kept c.keeps.result
          (λ is. subst (λ n. Preserved shape (transfer_for frame).kill (shape.exit n)) (sym c.loop-procedure.invariant.count) (c.keeps.ensures is))
          c.loop-procedure.invariant.kept);
    }
