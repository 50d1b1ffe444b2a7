use Rattle.std.proofs.Common.{◌≡◌, length}
use Rattle.flow_links.specs.Shapes.{directed_shape}
use Rattle.flow_why.specs.code.Frames.{transfer_for}
use Rattle.flow_why.specs.code.Scopes.{AreKept}
use Rattle.flow_why.proofs.scope.kept_of.Given as goal

abbrev pub invariant-loop-procedure : goal.invariant-loop-procedure
invariant-loop-procedure l = record {
  count : length l.kept.items ≡ l.procedure;
  kept : AreKept (directed_shape l.frame.links.now) (transfer_for l.frame) l.kept.items;
}
