use Rattle.std.proofs.Common.{◌≡◌, ◌<◌, ℕ, true, false, slice_index, slice_index_or}
use Rattle.flow_links.specs.Shapes.{directed_shape}
use Rattle.flow_regions.proofs.outside.is_called.Given as goal

abbrev pub invariant-loop-caller : goal.invariant-loop-caller
invariant-loop-caller l =
    (j : ℕ) → j < l.caller-index → slice_index_or l.inside ((directed_shape l.links).procedure_of (slice_index l.callers j)) false ≡ true
