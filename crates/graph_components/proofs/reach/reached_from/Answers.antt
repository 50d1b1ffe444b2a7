use Rattle.std.proofs.Common.{rules, ◌≡◌, ◌<◌, ℕ, List, All, length, vec_len, nat_eq, refl, ap, ◌∙◌, sym, subst, arith}
use Rattle.std.proofs.lemmas.List.{length-map, nil_from_length}
use Rattle.flow_graph.specs.code.Searching.{search_of, with_known}
use Rattle.graph_components.specs.code.Marks.{marked_by}
use Rattle.graph_components.proofs.searches.Reaching.{Searches, known_is_marked, looked_at_inside, reads_targets, search_begins, search_tells, step_taken}
use Rattle.graph_components.proofs.searches.Reaching.{targets_within}
use Rattle.graph_components.proofs.reach.reached_from.Goals as goal

pub loop-node-init : goal.loop-node-init
loop-node-init c =
    let nodes : ℕ = length c.args.marks.now.items in
    record {
      searches = subst
          (λ (reached : List ℕ). Searches c.args.arcs.now nodes c.args.start reached
          (search_of (marked_by c.args.stamp c.mark_node.new.marks.items) c.mark_node.new.work.items))
          (sym c.new-reached.ensures.items)
          (search_begins c.args.arcs.now nodes c.args.start c.args.stamp c.args.marks.now.items
          (search_of (marked_by c.args.stamp c.mark_node.new.marks.items) c.mark_node.new.work.items)
          refl c.requires.start c.requires.fresh
          (c.in_ok-mark_node.ensures.marked
          ∙ ap (λ (work : List ℕ). with_known (search_of (marked_by c.args.stamp c.args.marks.now.items) work) c.args.start) c.new-work.ensures.items));
      up_to = c.in_ok-mark_node.ensures.up_to (λ k d below. omega (arith, c.requires.fresh k d below));
    }

pub bounds-lists-node : goal.bounds-lists-node
bounds-lists-node c =
    let nodes : ℕ = length c.args.marks.now.items in
    let inside = looked_at_inside c.args.arcs.now nodes c.args.start c.loop-node.reached.items (marked_by c.args.stamp c.loop-node.marks.items)
    c.loop-node.work.items c.pop.new.self.items c.in-Some.node c.loop-node.invariant.searches c.in-Some.ensures.items in
    omega (arith, inside, c.requires.lists.count, length-map c.args.lists.now (λ list. list.items))

pub mark_nodes-requires : goal.mark_nodes-requires
mark_nodes-requires c =
    let nodes : ℕ = length c.args.marks.now.items in
    let inside = looked_at_inside c.args.arcs.now nodes c.args.start c.loop-node.reached.items (marked_by c.args.stamp c.loop-node.marks.items)
    c.loop-node.work.items c.pop.new.self.items c.in-Some.node c.loop-node.invariant.searches c.in-Some.ensures.items in
    let targets = reads_targets c.args.arcs.now nodes c.args.lists.now c.in-Some.node c.index-lists-node.result c.as_slice.result.now
    c.requires.lists inside c.index-lists-node.is c.as_slice.ensures in
    subst (λ (xs : List ℕ). All (λ node. node < length c.loop-node.marks.items) xs) (sym targets)
    (λ k d below. omega (
      arith,
      targets_within c.args.arcs.now nodes c.in-Some.node c.requires.within k d below,
      c.loop-node.invariant.searches.count,
      length-map c.loop-node.marks.items (λ mark. nat_eq mark c.args.stamp),
    ))

pub loop-node-smaller : goal.loop-node-smaller
loop-node-smaller c =
    let nodes : ℕ = length c.args.marks.now.items in
    let inside = looked_at_inside c.args.arcs.now nodes c.args.start c.loop-node.reached.items (marked_by c.args.stamp c.loop-node.marks.items)
    c.loop-node.work.items c.pop.new.self.items c.in-Some.node c.loop-node.invariant.searches c.in-Some.ensures.items in
    let targets = reads_targets c.args.arcs.now nodes c.args.lists.now c.in-Some.node c.index-lists-node.result c.as_slice.result.now
    c.requires.lists inside c.index-lists-node.is c.as_slice.ensures in
    (step_taken c.args.arcs.now nodes c.args.start c.loop-node.reached.items (marked_by c.args.stamp c.loop-node.marks.items) c.loop-node.work.items
    c.pop.new.self.items c.in-Some.node c.as_slice.result.now
    (search_of (marked_by c.args.stamp c.mark_nodes.new.marks.items) c.mark_nodes.new.work.items) c.requires.within c.loop-node.invariant.searches
    c.in-Some.ensures.items targets c.in_ok-mark_nodes.ensures.marked).smaller

pub loop-node-preserved : goal.loop-node-preserved
loop-node-preserved c =
    let nodes : ℕ = length c.args.marks.now.items in
    let inside = looked_at_inside c.args.arcs.now nodes c.args.start c.loop-node.reached.items (marked_by c.args.stamp c.loop-node.marks.items)
    c.loop-node.work.items c.pop.new.self.items c.in-Some.node c.loop-node.invariant.searches c.in-Some.ensures.items in
    let targets = reads_targets c.args.arcs.now nodes c.args.lists.now c.in-Some.node c.index-lists-node.result c.as_slice.result.now
    c.requires.lists inside c.index-lists-node.is c.as_slice.ensures in
    let step = step_taken c.args.arcs.now nodes c.args.start c.loop-node.reached.items (marked_by c.args.stamp c.loop-node.marks.items)
    c.loop-node.work.items c.pop.new.self.items c.in-Some.node c.as_slice.result.now
    (search_of (marked_by c.args.stamp c.mark_nodes.new.marks.items) c.mark_nodes.new.work.items) c.requires.within c.loop-node.invariant.searches
    c.in-Some.ensures.items targets c.in_ok-mark_nodes.ensures.marked in
    record {
      searches = subst
          (λ (reached : List ℕ). Searches c.args.arcs.now nodes c.args.start reached
          (search_of (marked_by c.args.stamp c.mark_nodes.new.marks.items) c.mark_nodes.new.work.items))
          (sym c.in_ok-push.ensures.items) step.searches;
      up_to = c.in_ok-mark_nodes.ensures.up_to c.loop-node.invariant.up_to;
    }

pub returns-clause-marked : goal.returns-clause-marked
returns-clause-marked c =
    let nodes : ℕ = length c.args.marks.now.items in
    let len : vec_len c.loop-node.work ≡ length c.loop-node.work.items = search rules in
    let tells = search_tells c.args.arcs.now nodes c.args.start c.loop-node.reached.items (marked_by c.args.stamp c.loop-node.marks.items)
    c.loop-node.work.items c.loop-node.invariant.searches (nil_from_length c.loop-node.work.items (sym len ∙ c.in_default.ensures.cases.0)) in
    λ node.
    let is_marked = known_is_marked c.args.stamp c.loop-node.marks.items node c.requires.some in
    (λ is. (tells.known_leads node).0 (is_marked.1 is), λ leads. is_marked.0 ((tells.known_leads node).1 leads))

pub returns-clause-reached : goal.returns-clause-reached
returns-clause-reached c =
    let nodes : ℕ = length c.args.marks.now.items in
    let len : vec_len c.loop-node.work ≡ length c.loop-node.work.items = search rules in
    let tells = search_tells c.args.arcs.now nodes c.args.start c.loop-node.reached.items (marked_by c.args.stamp c.loop-node.marks.items)
    c.loop-node.work.items c.loop-node.invariant.searches (nil_from_length c.loop-node.work.items (sym len ∙ c.in_default.ensures.cases.0)) in
    tells.reached_leads
