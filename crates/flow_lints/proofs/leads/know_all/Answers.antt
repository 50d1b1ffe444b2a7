use Rattle.std.proofs.Common.{false, get_or, length, take, ap, ◌∙◌, arith}
use Rattle.std.specs.List.{filter}
use Rattle.flow_graph.specs.code.Searching.{Search, search_of}
use Rattle.flow_graph.proofs.edges.LeadingLemmas.{length-known}
use Rattle.flow_lints.proofs.leads.know_all.Goals as goal

pub know_if-requires-clause-known : goal.know_if-requires-clause-known
know_if-requires-clause-known c =
    let as_many = ap (λ (search : Search). length search.known) c.loop-point.invariant
    ∙ length-known (search_of c.args.known.now.items c.args.work.now.items)
    (filter (λ x. get_or c.args.among.now x false) (take c.loop-point.point-index c.args.points.now)) in
    omega (arith, as_many, c.requires.known c.loop-point.point-index 0 (omega arith))
