use Rattle.std.proofs.Common.{◌≡◌, ◌<◌, ◌≤◌, ◌+◌, ℕ, length, slice_index}
use Rattle.flow_graph.specs.Points.{point_count}
use Rattle.flow_links.specs.Shapes.{directed_shape}
use Rattle.flow_regions.specs.code.Regions.{ArePlaced, IsPlaced}
use Rattle.flow_regions.proofs.region.put_procedure.Given as goal

abbrev pub invariant-loop-point : goal.invariant-loop-point
invariant-loop-point l = record {
  placed : ArePlaced (directed_shape l.links) l.inside (point_count l.links.program) l.procedure l.points.items l.places;
  here : (j : ℕ) → j < l.point-index → (directed_shape l.links).procedure_of (slice_index l.listed j) ≡ l.procedure
      → IsPlaced l.points.items l.places (slice_index l.listed j);
  many : length l.points.items ≤ length l.fn.points.items + l.point-index;
}
