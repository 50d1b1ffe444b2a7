use Rattle.flow_why.proofs.visits.Reasons.{may_gen, source_low}
use Rattle.flow_why.proofs.run.gen_known.Goals as goal

pub based-requires-clause-within : goal.based-requires-clause-within
based-requires-clause-within c = source_low c.args.frame.now c.requires.frame c.args.at c.args.to c.requires.there

pub add-requires-clause-may : goal.add-requires-clause-may
add-requires-clause-may c =
    may_gen c.args.frame.now c.requires.frame c.args.search.now c.args.claim c.args.at c.args.to c.requires.there c.requires.gens
    (c.based.ensures.0 c.if-not-based.false)
