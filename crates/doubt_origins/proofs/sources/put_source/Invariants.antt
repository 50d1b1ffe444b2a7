use Rattle.std.proofs.Common.{◌≡◌, fold, take}
use Rattle.flow_graph.specs.code.NumberLists.{contents, with_last}
use Rattle.flow_graph.specs.Paths.{target_of}
use Rattle.doubt_origins.proofs.sources.put_source.Given as goal

abbrev pub invariant-loop-edge : goal.invariant-loop-edge
invariant-loop-edge l =
    contents l.lists.items ≡ fold (λ known edge. with_last known (target_of edge) l.source) (contents l.fn.lists.items) (take l.edge-index l.edges)
