use Rattle.std.proofs.Common.{arith}
use Rattle.flow_views.proofs.facts.Tables.{has_list, reads_edges}
use Rattle.flow_views.proofs.view_program.ViewProgram.edges.Goals as goal

pub index-requires : goal.index-requires
index-requires c =
    let many = has_list c.args.self.now.found.graph.now c.args.self.now.successors.items c.requires.shown.successors in
    omega (arith, many, c.requires.point)

pub returns : goal.returns
returns c =
    reads_edges c.args.self.now.found.graph.now c.args.self.now.successors.items c.args.point c.index.result.now c.as_slice.result.now
    c.requires.shown.successors c.requires.point c.index.ensures c.as_slice.ensures
