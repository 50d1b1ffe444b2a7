use Rattle.std.proofs.Common.{◌≡◌, length, rules, subst}
use Rattle.flow_why.specs.code.Found.{marks_of, point_at}
use Rattle.flow_why.specs.code.Frames.{question_of}
use Rattle.flow_why.specs.code.Trails.{AreCollected}
use Rattle.flow_why.proofs.trails.Collecting.{hops_from}
use Rattle.flow_why.proofs.trail.hops_of.Goals as goal

pub returns : goal.returns
returns c =
    let question = question_of c.args.frame.now in
    let point = point_at (marks_of c.args.search.now c.args.claim).found c.args.place in
    let hops = c.collect.new.hops.items in
    let long : length c.reverse.new.self.items ≡ length hops = search rules in
    hops_from question c.args.claim point hops c.reverse.new.self.items
    (subst (λ old. AreCollected question c.args.claim point old hops) c.new-hops.ensures.items c.in_ok-collect.ensures)
    c.reverse.ensures.items long
