use Rattle.std.proofs.Common.{◌≡◌, ◌++◌, suc, map, take}
use Rattle.flow_graph.specs.Paths.{Ret}
use Rattle.flow_graph.proofs.succ.put_returns.Given as goal

abbrev pub invariant-loop-site : goal.invariant-loop-site
invariant-loop-site g l =
    g.E.EdgeList.listed l.edges ≡ g.E.EdgeList.listed l.fn.edges ++ map (λ site. Ret site l.point (suc site)) (take l.site-index l.sites)
