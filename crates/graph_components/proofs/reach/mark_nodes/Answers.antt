use Rattle.std.proofs.Common.{◌<◌, ℕ, get_or, length, take, ap, ◌∙◌, sym, arith, nat_eq}
use Rattle.std.proofs.lemmas.List.{length-map}
use Rattle.std.proofs.lemmas.List.Sums.{fold_more}
use Rattle.flow_graph.specs.code.Searching.{Search, search_of, with_known}
use Rattle.flow_graph.proofs.edges.LeadingLemmas.{length-known}
use Rattle.graph_components.specs.code.Marks.{marked_by}
use Rattle.graph_components.proofs.reach.mark_nodes.Goals as goal

pub mark_node-requires : goal.mark_node-requires
mark_node-requires c =
    let as_many = ap (λ (search : Search). length search.known) c.loop-node.invariant.marked
    ∙ length-known (search_of (marked_by c.args.stamp c.args.marks.now.items) c.args.work.now.items) (take c.loop-node.node-index c.args.nodes.now) in
    omega (
      arith,
      as_many,
      c.requires c.loop-node.node-index 0 (omega arith),
      length-map c.args.marks.now.items (λ mark. nat_eq mark c.args.stamp),
      length-map c.loop-node.marks.items (λ mark. nat_eq mark c.args.stamp),
    )

pub loop-node-preserved : goal.loop-node-preserved
loop-node-preserved c =
    let i : ℕ = c.loop-node.node-index in
    let begun : Search = search_of (marked_by c.args.stamp c.args.marks.now.items) c.args.work.now.items in
    let inside : i < length c.args.nodes.now = omega arith in
    record {
      marked = c.in_ok-mark_node.ensures.marked
          ∙ ap (λ search. with_known search (get_or c.args.nodes.now i 0)) c.loop-node.invariant.marked
          ∙ sym (fold_more with_known begun c.args.nodes.now i 0 inside);
      up_to = λ before. c.in_ok-mark_node.ensures.up_to (c.loop-node.invariant.up_to before);
    }
