use Rattle.std.proofs.Common.{◌<◌, ℕ, length, take, ap, ◌∙◌, arith}
use Rattle.std.proofs.lemmas.List.{get_or_default}
use Rattle.flow_graph.specs.code.NumberLists.{contents}
use Rattle.flow_graph.specs.Paths.{target_of}
use Rattle.flow_graph.specs.declared.edge.Edge.TheVariants.{Step}
use Rattle.flow_graph.proofs.edges.SourceLemmas.{length-put_sources}
use Rattle.doubt_origins.proofs.sources.put_source.Goals as goal

pub put_last-requires : goal.put_last-requires
put_last-requires c =
    let i : ℕ = c.loop-edge.edge-index in
    let inside : i < length c.args.edges.now = omega arith in
    let as_many = ap length c.loop-edge.invariant ∙ length-put_sources (contents c.args.lists.now.items) c.args.source (take i c.args.edges.now) in
    omega (arith, c.target.ensures ∙ ap target_of (get_or_default c.args.edges.now i _ (Step 0 0) inside), c.requires i (Step 0 0) inside, as_many)
