use Rattle.std.proofs.Common.{◌≡◌, length}
use Rattle.flow_links.specs.Shapes.{directed_shape}
use Rattle.flow_why.specs.code.Frames.{transfer_for}
use Rattle.flow_why.specs.code.Scopes.{MarkKills}
use Rattle.flow_why.proofs.scope.killing.Given as goal

abbrev pub invariant-loop-at : goal.invariant-loop-at
invariant-loop-at l = record {
  count : length l.marks.items ≡ (directed_shape l.frame.links.now).procedures;
  kills : MarkKills (directed_shape l.frame.links.now) (transfer_for l.frame) l.marks.items l.at;
}
