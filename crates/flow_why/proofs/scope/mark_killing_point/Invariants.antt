use Rattle.std.proofs.Common.{◌≡◌, ◌<◌, ℕ, true, false, get_or, length, slice_index_or}
use Rattle.flow_links.specs.Shapes.{directed_shape}
use Rattle.flow_why.specs.code.Frames.{transfer_for}
use Rattle.flow_why.specs.code.Scopes.{Stays}
use Rattle.flow_why.proofs.scope.mark_killing_point.Given as goal

abbrev pub invariant-loop-to : goal.invariant-loop-to
invariant-loop-to l = record {
  count : length l.marks ≡ length l.fn.marks;
  stays : Stays l.fn.marks l.marks;
  done : (j d : ℕ) → j < l.to-index → (transfer_for l.frame).kill l.at (get_or l.steps j d) ≡ true
      → slice_index_or l.marks ((directed_shape l.frame.links.now).procedure_of l.at) false ≡ true;
}
