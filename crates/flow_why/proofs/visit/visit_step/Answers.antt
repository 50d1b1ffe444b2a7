use Rattle.std.proofs.Common.{sym, ◌∙◌}
use Rattle.flow_why.proofs.visits.Reasons.{may_step}
use Rattle.flow_why.proofs.visit.visit_step.Goals as goal

pub add-requires-clause-may : goal.add-requires-clause-may
add-requires-clause-may c =
    may_step c.args.frame.now c.requires.frame c.args.search.now c.args.claim c.args.at c.args.to c.requires.marks c.requires.there
    (sym c.kills.ensures ∙ c.if-kills.false) c.requires.here
