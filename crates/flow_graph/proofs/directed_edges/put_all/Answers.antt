use Rattle.std.proofs.Common.{ℕ, ◌+◌, ◌++◌, flat_map, ap, ◌∙◌, sym, append_assoc}
use Rattle.std.specs.List.{range_with_len}
use Rattle.flow_graph.specs.Edges.{edges_from}
use Rattle.flow_graph.specs.code.Walks.{WalkAt}
use Rattle.flow_graph.proofs.lists.Ranges.{flat_map-range_more}
use Rattle.flow_graph.proofs.directed_edges.put_all.Goals as goal

pub loop-point-preserved : goal.loop-point-preserved
loop-point-preserved g c =
    let program = c.args.graph.now in
    let n : ℕ = c.loop-point.point in
    let first = g.E.EdgeList.listed c.args.edges.now in
    let before = flat_map (edges_from program) (range_with_len 0 n) in
    record {
      walks = c.step-next.ensures.next
          ∙ ap (λ (w : WalkAt). let v : WalkAt = record { program = w.program; point = w.point + 1 } in v) c.loop-point.invariant.walks;
      listed = c.in_ok-put_succ.ensures
          ∙ ap (λ es. es ++ edges_from program n) c.loop-point.invariant.listed
          ∙ append_assoc first before (edges_from program n)
          ∙ sym (ap (λ es. first ++ es) (flat_map-range_more (edges_from program) n));
    }
