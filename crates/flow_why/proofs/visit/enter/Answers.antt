use Rattle.std.proofs.Common.{subst}
use Rattle.flow_why.specs.code.Found.{Has}
use Rattle.flow_why.proofs.visits.Reasons.{caller_low, may_enter_as}
use Rattle.flow_why.proofs.visit.enter.Goals as goal

pub ends_of_call-site-requires-clause-within : goal.ends_of_call-site-requires-clause-within
ends_of_call-site-requires-clause-within c =
    caller_low c.args.frame.now c.requires.frame c.requires.call.0 c.args.at c.args.callee c.requires.call.1

pub add-requires-clause-may : goal.add-requires-clause-may
add-requires-clause-may c =
    may_enter_as c.args.frame.now c.requires.frame c.args.search.now c.requires.call.0 c.args.at c.args.callee c.ends_of_call-site.result.0
    c.entry-to.result c.requires.marks c.requires.call.1 (subst (λ d. Has c.args.search.now d c.args.at) c.in-Holds.is c.requires.here)
    c.ends_of_call-site.ensures.site c.entry-to.ensures
