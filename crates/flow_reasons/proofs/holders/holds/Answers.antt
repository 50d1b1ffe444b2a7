use Rattle.flow_reasons.proofs.meetings.Holding.{not_held_is}
use Rattle.flow_reasons.proofs.holders.holds.Goals as goal

pub returns-then-not-targets-variable : goal.returns-then-not-targets-variable
returns-then-not-targets-variable c =
    let asked = c.args.asked.now in
    not_held_is asked.graph.now asked.expression asked.at c.args.variable c.requires.asked.sound c.args.targets.now c.requires.targets
    c.requires.variable c.if-not-targets-variable.true
