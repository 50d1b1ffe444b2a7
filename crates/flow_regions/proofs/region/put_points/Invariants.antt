use Rattle.std.proofs.Common.{◌≤◌, length, slice_index}
use Rattle.flow_graph.specs.Points.{point_count}
use Rattle.flow_links.specs.Shapes.{directed_shape}
use Rattle.flow_regions.specs.code.Regions.{ArePlaced}
use Rattle.flow_regions.proofs.region.put_points.Given as goal

abbrev pub invariant-loop-procedure : goal.invariant-loop-procedure
invariant-loop-procedure l = record {
  placed : ArePlaced (directed_shape l.links) l.inside (point_count l.links.program) l.procedure l.points.items l.places;
  many : length l.points.items ≤ slice_index l.listed.starts.items l.procedure;
}
