use Rattle.std.proofs.Common.{◌<◌, ℕ, length, map, sym, take, ap, ◌∙◌, arith}
use Rattle.std.proofs.lemmas.List.{get_or_default}
use Rattle.std.proofs.lemmas.List.Folds.{fold-map}
use Rattle.flow_graph.specs.code.Searching.{Search, search_of, with_known}
use Rattle.flow_graph.specs.Paths.{target_of}
use Rattle.flow_graph.specs.declared.edge.Edge.TheVariants.{Step}
use Rattle.flow_graph.proofs.edges.LeadingLemmas.{length-known}
use Rattle.flow_reasons.proofs.doubts.know_targets.Goals as goal

pub know_point-requires : goal.know_point-requires
know_point-requires c =
    let i : ℕ = c.loop-edge.edge-index in
    let inside : i < length c.args.edges.now = omega arith in
    let begun : Search = search_of c.args.known.now.items c.args.work.now.items in
    let as_many = ap (λ (search : Search). length search.known)
    (c.loop-edge.invariant ∙ sym (fold-map with_known target_of begun (take i c.args.edges.now)))
    ∙ length-known begun (map target_of (take i c.args.edges.now)) in
    omega (arith, c.end_of.ensures ∙ ap target_of (get_or_default c.args.edges.now i _ (Step 0 0) inside), c.requires i (Step 0 0) inside, as_many)
