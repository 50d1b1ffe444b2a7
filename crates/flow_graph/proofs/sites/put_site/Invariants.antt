use Rattle.std.proofs.Common.{◌≡◌, fold, take}
use Rattle.flow_graph.specs.code.NumberLists.{contents, with_last}
use Rattle.flow_graph.proofs.sites.put_site.Given as goal

abbrev pub invariant-loop-callee : goal.invariant-loop-callee
invariant-loop-callee l =
    contents l.lists.items ≡ fold (λ known procedure. with_last known procedure l.site) (contents l.fn.lists.items) (take l.callee-index l.callees)
