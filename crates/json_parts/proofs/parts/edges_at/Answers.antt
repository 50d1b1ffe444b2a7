use Rattle.std.proofs.Common.{refl, arith}
use Rattle.flow_views.proofs.facts.Tables.{has_list, reads_edges}
use Rattle.json_parts.proofs.parts.edges_at.Goals as goal

pub bounds-edges-point : goal.bounds-edges-point
bounds-edges-point c =
    let many = has_list c.args.graph.now c.args.edges.now (c.requires.edges refl) in
    omega (arith, many, c.requires.point)

pub returns : goal.returns
returns c =
    reads_edges c.args.graph.now c.args.edges.now c.args.point c.index-edges-point.result c.as_slice.result.now
    (c.requires.edges refl) c.requires.point c.index-edges-point.is c.as_slice.ensures
