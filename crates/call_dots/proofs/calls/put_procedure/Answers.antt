use Rattle.std.proofs.Common.{◌≡◌, ◌∙◌, ◌<◌, ◌++◌, ℕ, List, All, flat_map, length, map, ap, sym, subst, arith}
use Rattle.std.specs.List.{range_with_len}
use Rattle.std.proofs.lemmas.List.{map-append}
use Rattle.flow_graph.proofs.lists.Ranges.{flat_map-range_more}
use Rattle.graph_components.specs.declared.arc.Arc.{Arc}
use Rattle.tac_program.specs.Programs.{Program}
use Rattle.call_dots.specs.Calls.{arc_of, calls_in, edge_of, edges_in, first_calls}
use Rattle.call_dots.specs.declared.calls.CallEdge.{CallEdge}
use Rattle.call_dots.specs.declared.calls.NamedCall.{NamedCall}
use Rattle.call_dots.proofs.named.Calls.{callees_within}
use Rattle.call_dots.proofs.calls.put_procedure.Goals as goal

pub count_calls-requires-clause-callees : goal.count_calls-requires-clause-callees
count_calls-requires-clause-callees c =
    subst (λ (calls : List NamedCall). All (λ (call : NamedCall). call.callee < length c.args.all.now.counts.items) calls)
    (sym (c.as_slice-2.ensures.value ∙ c.in_ok-calls.ensures))
    (λ k d below. omega (
      arith,
      callees_within c.args.graph.now c.points.ensures.sound c.args.procedure c.requires.procedure k d below,
      c.requires.before.count,
    ))

pub put_edges-requires-clause-callees : goal.put_edges-requires-clause-callees
put_edges-requires-clause-callees c =
    subst (λ (calls : List NamedCall). All (λ (call : NamedCall). call.callee < length c.count_calls.new.counts.items) calls)
    (sym (c.as_slice-3.ensures.value ∙ c.in_ok-calls.ensures))
    (λ k d below. omega (
      arith,
      callees_within c.args.graph.now c.points.ensures.sound c.args.procedure c.requires.procedure k d below,
      c.requires.before.count,
      c.count_calls.ensures.count,
    ))

pub returns : goal.returns
returns c =
    let program : Program = c.args.graph.now in
    let p : ℕ = c.args.procedure in
    let put : c.as_slice.result.now ≡ calls_in program p = c.as_slice.ensures.value ∙ c.in_ok-calls.ensures in
    let drawn : c.as_slice-3.result.now ≡ calls_in program p = c.as_slice-3.ensures.value ∙ c.in_ok-calls.ensures in
    let before : List NamedCall = flat_map (calls_in program) (range_with_len 0 p) in
    record {
      edges = c.in_ok-put_edges.ensures.edges
          ∙ ap (λ (calls : List NamedCall). c.args.all.now.edges.items ++ map (edge_of calls) (first_calls calls)) drawn
          ∙ ap (λ (es : List CallEdge). es ++ edges_in program p) c.requires.before.edges
          ∙ sym (flat_map-range_more (edges_in program) p);
      arcs = c.in_ok-put_arcs.ensures
          ∙ ap (λ (calls : List NamedCall). c.args.all.now.arcs.items ++ map arc_of calls) put
          ∙ ap (λ (arcs : List Arc). arcs ++ map arc_of (calls_in program p)) c.requires.before.arcs
          ∙ sym (map-append arc_of before (calls_in program p))
          ∙ sym (ap (map arc_of) (flat_map-range_more (calls_in program) p));
      count = c.in_ok-put_edges.ensures.count ∙ c.count_calls.ensures.count ∙ c.requires.before.count;
      zero = c.in_ok-put_edges.ensures.zero;
    }
