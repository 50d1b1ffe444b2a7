use Rattle.std.proofs.Common.{◌≡◌, ◌<◌, ℕ, length, slice_index}
use Rattle.flow_graph.specs.Points.{point_count}
use Rattle.flow_links.specs.Shapes.{directed_shape}
use Rattle.gen_kill.specs.Selections.{IsColumnAffected}
use Rattle.flow_regions.specs.code.Regions.{IsIn, StaysIn}
use Rattle.flow_regions.proofs.region.put_touched.Given as goal

abbrev pub invariant-loop-column : goal.invariant-loop-column
invariant-loop-column l = record {
  count : length l.inside ≡ length l.fn.inside;
  kept : StaysIn l.fn.inside l.inside;
  touched : (k x : ℕ) → k < l.column-index → x < point_count l.links.program → IsColumnAffected l.problem x (slice_index l.columns k)
      → IsIn (directed_shape l.links) l.inside x;
}
