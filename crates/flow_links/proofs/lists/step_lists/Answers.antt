use Rattle.std.proofs.Common.{ℕ, List, get_or, subst, arith}
use Rattle.flow_graph.specs.Problems.{may_shape}
use Rattle.flow_graph.specs.Points.{point_count}
use Rattle.flow_graph.specs.declared.edge.Edge.{Edge}
use Rattle.flow_links.specs.Tables.EdgeLists.{AreListed, edge_at, key_of, step_target}
use Rattle.flow_links.specs.declared.list_kind.ListKind.TheVariants.{Steps}
use Rattle.flow_links.proofs.groups.CallLemmas.{all_edges}
use Rattle.flow_links.proofs.groups.ListLemmas.{values_are_listed, read_at, same_values}
use Rattle.flow_links.proofs.groups.Written.{places_low}
use Rattle.flow_links.proofs.lists.step_lists.Goals as goal

pub returns : goal.returns
returns c =
    let starts : List ℕ = c.in_ok-starts.field-0.starts.items in
    let places : List ℕ = c.in_ok-starts.field-0.places.items in
    let long = c.in_ok-starts.ensures.start_count in
    let end = read_at starts c.key_count.result (point_count c.args.problem.now.program) c.index.result.now c.key_count.ensures (omega (arith, long))
    c.index.ensures in
    subst (λ (edges : List Edge).
    AreListed edges (key_of Steps (may_shape c.args.problem.now.program c.args.problem.now.analysis) (point_count c.args.problem.now.program))
    step_target (point_count c.args.problem.now.program) starts c.in_ok-items.items.items) c.requires
    (values_are_listed c.args.edges.now
    (key_of Steps (may_shape c.args.problem.now.program c.args.problem.now.analysis) (point_count c.args.problem.now.program)) step_target
    (point_count c.args.problem.now.program) starts places c.in_ok-items.items.items c.in_ok-starts.ensures
    (same_values (λ place. step_target (edge_at c.args.edges.now place)) c.in_ok-items.items.items c.index.result.now (get_or starts
    (point_count c.args.problem.now.program) 0) c.as_slice-places.result.now places c.in_ok-items.ensures end c.as_slice-places.ensures.value))

pub index-requires : goal.index-requires
index-requires c =
    let long = c.in_ok-starts.ensures.start_count in
    let same = c.key_count.ensures in
    let len = c.in_ok-starts.field-0.starts.ok.0 in
    omega (arith, long, same, len)

pub places-requires : goal.places-requires
places-requires c = all_edges (may_shape c.args.problem.now.program c.args.problem.now.analysis) c.args.edges.now c.requires

pub targets-requires-clause-places : goal.targets-requires-clause-places
targets-requires-clause-places c j within = places_low c.args.edges.now
    (key_of Steps (may_shape c.args.problem.now.program c.args.problem.now.analysis) (point_count c.args.problem.now.program))
    _ c.in_ok-starts.field-0.starts.items c.in_ok-starts.field-0.places.items c.in_ok-starts.ensures c.index.result.now c.as_slice-places.result.now
    c.as_slice-places.ensures.value j within

pub targets-requires-clause-edges : goal.targets-requires-clause-edges
targets-requires-clause-edges c = all_edges (may_shape c.args.problem.now.program c.args.problem.now.analysis) c.args.edges.now c.requires
