use Rattle.std.proofs.Common.{◌≡◌, ◌++◌, map, take}
use Rattle.flow_graph.specs.Paths.{Call}
use Rattle.flow_graph.specs.Points.{entry_point}
use Rattle.flow_graph.proofs.succ.put_calls.Given as goal

abbrev pub invariant-loop-callee : goal.invariant-loop-callee
invariant-loop-callee g l = g.E.EdgeList.listed l.edges ≡ g.E.EdgeList.listed l.fn.edges
    ++ map (λ callee. Call l.point l.point (entry_point l.fn.points callee)) (take l.callee-index l.callees)
