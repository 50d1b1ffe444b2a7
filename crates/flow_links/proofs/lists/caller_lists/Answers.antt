use Rattle.std.proofs.Common.{ℕ, List, get_or, arith}
use Rattle.flow_graph.specs.Problems.{may_shape}
use Rattle.flow_graph.specs.Points.{point_count}
use Rattle.flow_links.specs.Tables.EdgeLists.{edge_at, key_of, call_source}
use Rattle.flow_links.specs.declared.list_kind.ListKind.TheVariants.{Callers}
use Rattle.flow_links.proofs.groups.CallLemmas.{calls_are_edges, calls_listed, in_callers}
use Rattle.flow_links.proofs.groups.ListLemmas.{values_are_listed, read_at, same_values}
use Rattle.flow_links.proofs.groups.Written.{places_low}
use Rattle.flow_links.proofs.lists.caller_lists.Goals as goal

pub returns : goal.returns
returns c =
    let starts : List ℕ = c.in_ok-starts.field-0.starts.items in
    let places : List ℕ = c.in_ok-starts.field-0.places.items in
    let long = c.in_ok-starts.ensures.start_count in
    let end = read_at starts c.key_count.result (point_count c.args.problem.now.program) c.index.result.now c.key_count.ensures (omega (arith, long))
    c.index.ensures in
    calls_listed c.requires (in_callers (may_shape c.args.problem.now.program c.args.problem.now.analysis) (point_count c.args.problem.now.program))
    (values_are_listed c.args.calls.now
    (key_of Callers (may_shape c.args.problem.now.program c.args.problem.now.analysis) (point_count c.args.problem.now.program)) call_source
    (point_count c.args.problem.now.program) starts places c.in_ok-items.items.items c.in_ok-starts.ensures
    (same_values (λ place. call_source (edge_at c.args.calls.now place)) c.in_ok-items.items.items c.index.result.now (get_or starts
    (point_count c.args.problem.now.program) 0) c.as_slice-places.result.now places c.in_ok-items.ensures end c.as_slice-places.ensures.value))

pub index-requires : goal.index-requires
index-requires c =
    let long = c.in_ok-starts.ensures.start_count in
    let same = c.key_count.ensures in
    let len = c.in_ok-starts.field-0.starts.ok.0 in
    omega (arith, long, same, len)

pub places-requires : goal.places-requires
places-requires c = calls_are_edges (may_shape c.args.problem.now.program c.args.problem.now.analysis) c.args.calls.now c.requires

pub sources-requires-clause-places : goal.sources-requires-clause-places
sources-requires-clause-places c j within = places_low c.args.calls.now
    (key_of Callers (may_shape c.args.problem.now.program c.args.problem.now.analysis) (point_count c.args.problem.now.program))
    _ c.in_ok-starts.field-0.starts.items c.in_ok-starts.field-0.places.items c.in_ok-starts.ensures c.index.result.now c.as_slice-places.result.now
    c.as_slice-places.ensures.value j within

pub sources-requires-clause-edges : goal.sources-requires-clause-edges
sources-requires-clause-edges c = calls_are_edges (may_shape c.args.problem.now.program c.args.problem.now.analysis) c.args.calls.now c.requires
