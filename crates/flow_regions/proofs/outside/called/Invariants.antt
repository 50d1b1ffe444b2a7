use Rattle.std.proofs.Common.{◌≡◌, length}
use Rattle.flow_links.specs.Shapes.{directed_shape}
use Rattle.flow_regions.specs.code.Outside.{AreCalled}
use Rattle.flow_regions.proofs.outside.called.Given as goal

abbrev pub invariant-loop-procedure : goal.invariant-loop-procedure
invariant-loop-procedure l = record {
  count : length l.called.items ≡ l.procedure;
  called : AreCalled (directed_shape l.links) l.inside l.called.items l.procedure;
}
