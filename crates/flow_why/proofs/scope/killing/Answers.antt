use Rattle.std.proofs.Common.{◌≡◌, ◌+◌, List, Bool, length, sym, ap, ◌∙◌, subst}
use Rattle.flow_links.specs.Shapes.{directed_shape}
use Rattle.flow_why.specs.code.Frames.{transfer_for}
use Rattle.flow_why.specs.code.Scopes.{MarkKills, Stays}
use Rattle.flow_why.proofs.solutions.Keeping.{more_kills, written_over}
use Rattle.flow_why.proofs.scope.killing.Goals as goal

pub loop-at-preserved : goal.loop-at-preserved
loop-at-preserved c =
    let frame = c.args.frame.now in
    let shape = directed_shape frame.links.now in
    let more = c.mark_killing_point.ensures in
    let items = c.loop-at.marks.items in
    let same : length c.mark_killing_point.new.marks ≡ length items = more.count ∙ ap length c.as_mut_slice.ensures.value in
    let written = written_over c.loop-at.marks.len c.mark_killing_point.new.marks items c.loop-at.marks.ok.0 same in record {
      count = ap length (sym written) ∙ (same ∙ c.loop-at.invariant.count);
      kills = subst (λ (m : List Bool). MarkKills shape (transfer_for frame) m (c.loop-at.at + 1)) written
          (more_kills shape (transfer_for frame) items c.mark_killing_point.new.marks c.loop-at.at
          (subst (λ (m : List Bool). Stays m c.mark_killing_point.new.marks) c.as_mut_slice.ensures.value more.stays) c.loop-at.invariant.kills more.kills);
    }
