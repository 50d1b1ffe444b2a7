use Rattle.std.proofs.Common.{ℕ, List, get_or, arith}
use Rattle.flow_graph.specs.Problems.{may_shape}
use Rattle.flow_graph.specs.Points.{point_count}
use Rattle.flow_links.specs.Tables.EdgeLists.{edge_at, key_of, site_link}
use Rattle.flow_links.specs.declared.list_kind.ListKind.TheVariants.{Sites}
use Rattle.flow_links.proofs.groups.CallLemmas.{calls_are_edges, calls_listed, in_sites}
use Rattle.flow_links.proofs.groups.ListLemmas.{values_are_listed, read_at, same_values}
use Rattle.flow_links.proofs.groups.Written.{places_low}
use Rattle.flow_links.proofs.lists.site_lists.Goals as goal

pub returns : goal.returns
returns c =
    let starts : List ℕ = c.in_ok-starts.field-0.starts.items in
    let places : List ℕ = c.in_ok-starts.field-0.places.items in
    let long = c.in_ok-starts.ensures.start_count in
    let end = read_at starts c.key_count.result (may_shape c.args.problem.now.program c.args.problem.now.analysis).procedures c.index.result.now
    c.key_count.ensures (omega (arith, long)) c.index.ensures in
    calls_listed c.requires (in_sites (may_shape c.args.problem.now.program c.args.problem.now.analysis) (point_count c.args.problem.now.program))
    (values_are_listed c.args.calls.now (key_of Sites (may_shape c.args.problem.now.program c.args.problem.now.analysis)
    (point_count c.args.problem.now.program)) (site_link (may_shape c.args.problem.now.program c.args.problem.now.analysis))
    (may_shape c.args.problem.now.program c.args.problem.now.analysis).procedures starts places c.in_ok-items.items.items c.in_ok-starts.ensures
    (same_values (λ place. (site_link (may_shape c.args.problem.now.program c.args.problem.now.analysis)) (edge_at c.args.calls.now place))
    c.in_ok-items.items.items c.index.result.now (get_or starts (may_shape c.args.problem.now.program c.args.problem.now.analysis).procedures 0)
    c.as_slice-places.result.now places c.in_ok-items.ensures end c.as_slice-places.ensures.value))

pub index-requires : goal.index-requires
index-requires c =
    let long = c.in_ok-starts.ensures.start_count in
    let same = c.key_count.ensures in
    let len = c.in_ok-starts.field-0.starts.ok.0 in
    omega (arith, long, same, len)

pub places-requires : goal.places-requires
places-requires c = calls_are_edges (may_shape c.args.problem.now.program c.args.problem.now.analysis) c.args.calls.now c.requires

pub sites-requires-clause-places : goal.sites-requires-clause-places
sites-requires-clause-places c j within = places_low c.args.calls.now (key_of Sites (may_shape c.args.problem.now.program c.args.problem.now.analysis)
    (point_count c.args.problem.now.program)) _ c.in_ok-starts.field-0.starts.items c.in_ok-starts.field-0.places.items c.in_ok-starts.ensures
    c.index.result.now c.as_slice-places.result.now c.as_slice-places.ensures.value j within

pub sites-requires-clause-edges : goal.sites-requires-clause-edges
sites-requires-clause-edges c = calls_are_edges (may_shape c.args.problem.now.program c.args.problem.now.analysis) c.args.calls.now c.requires
