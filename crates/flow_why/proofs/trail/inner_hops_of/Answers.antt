use Rattle.std.proofs.Common.{subst}
use Rattle.flow_why.specs.code.Trails.{AreBaseHops}
use Rattle.flow_why.specs.declared.claim.Claim.TheVariants as claim
use Rattle.flow_why.proofs.trails.Collecting.{inner_from}
use Rattle.flow_why.proofs.trail.inner_hops_of.Goals as goal

pub returns : goal.returns
returns c =
    let frame = c.args.frame.now in
    let hops = c.follow_base.new.hops.items in
    inner_from frame c.args.point hops c.reverse.new.self.items
    (subst (λ old. AreBaseHops frame claim.Generated c.args.point old hops) c.new-hops.ensures.items c.in_ok-follow_base.ensures)
    c.reverse.ensures.items
