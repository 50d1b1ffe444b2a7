use Rattle.std.proofs.Common.{length, take, ap, ◌∙◌, arith}
use Rattle.flow_graph.specs.code.NumberLists.{contents}
use Rattle.flow_graph.proofs.lists.NumberListLemmas.{length-put}
use Rattle.flow_graph.proofs.sites.put_site.Goals as goal

pub put_last-requires : goal.put_last-requires
put_last-requires c =
    let there = c.requires c.loop-callee.callee-index 0 (omega arith) in
    let as_many = ap length c.loop-callee.invariant
    ∙ length-put (contents c.args.lists.now.items) c.args.site (take c.loop-callee.callee-index c.args.callees.now) in
    omega (arith, there, as_many)
