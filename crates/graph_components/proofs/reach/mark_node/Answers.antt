use Rattle.std.proofs.Common.{◌≡◌, false, get_or, nat_eq, ◌∙◌, arith}
use Rattle.std.proofs.lemmas.List.{get_or_default}
use Rattle.graph_components.proofs.searches.Reaching.{marks_more}
use Rattle.graph_components.proofs.reach.mark_node.Goals as goal

pub returns-in_ok-push-clause-marked : goal.returns-in_ok-push-clause-marked
returns-in_ok-push-clause-marked c =
    let read : c.index.result.now ≡ get_or c.args.marks.now.items c.args.node 0 =
    c.index.ensures ∙ get_or_default c.args.marks.now.items c.args.node _ 0 c.requires in
    let other : nat_eq (get_or c.args.marks.now.items c.args.node 0) c.args.stamp ≡ false =
    (let differ : get_or c.args.marks.now.items c.args.node 0 ≡ c.args.stamp → ⊥ = λ same. c.if-not-was_marked.true (read ∙ same) in grind arith) in
    marks_more c.args.stamp c.args.marks.now.items c.args.node c.args.work.now.items c.push.new.self.items c.requires other
    c.in_ok-push.ensures.items
