use Rattle.std.proofs.Common.{◌≡◌, fold, take}
use Rattle.flow_graph.specs.code.Searching.{search_of, with_known}
use Rattle.flow_graph.specs.Paths.{target_of}
use Rattle.flow_reasons.proofs.doubts.know_targets.Given as goal

abbrev pub invariant-loop-edge : goal.invariant-loop-edge
invariant-loop-edge l =
    search_of l.known.items l.work.items
    ≡ fold (λ search edge. with_known search (target_of edge)) (search_of l.fn.known.items l.fn.work.items) (take l.edge-index l.edges)
