use Rattle.std.proofs.Common.{◌<◌, sym, subst}
use Rattle.flow_why.proofs.visits.Reasons.{caller_low}
use Rattle.flow_why.proofs.visit.pass_known.Goals as goal

pub has-requires : goal.has-requires
has-requires c =
    subst (λ n. c.args.at < n) (sym (c.requires.marks.each c.args.claim).points)
    (caller_low c.args.frame.now c.requires.frame c.requires.call.0 c.args.at c.args.callee c.requires.call.1)
