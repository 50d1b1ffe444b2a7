use Rattle.std.proofs.Common.{length, take, ap, ◌∙◌, arith}
use Rattle.flow_graph.specs.code.Searching.{Search, search_of}
use Rattle.flow_graph.proofs.edges.LeadingLemmas.{length-known}
use Rattle.flow_graph.proofs.leads.know_all.Goals as goal

pub know_point-requires : goal.know_point-requires
know_point-requires c =
    let as_many = ap (λ (search : Search). length search.known) c.loop-point.invariant
    ∙ length-known (search_of c.args.known.now.items c.args.work.now.items) (take c.loop-point.point-index c.args.points.now) in
    omega (arith, as_many, c.requires c.loop-point.point-index 0 (omega arith))
