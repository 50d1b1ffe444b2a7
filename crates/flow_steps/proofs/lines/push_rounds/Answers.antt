use Rattle.std.proofs.Common.{◌∙◌, ◌+◌, sym}
use Rattle.flow_steps.proofs.told.Rounds.{last_round, next_round}
use Rattle.flow_steps.proofs.told.Same.{sized}
use Rattle.flow_steps.proofs.lines.push_rounds.Goals as goal

pub push_round-requires-clause-new : goal.push_round-requires-clause-new
push_round-requires-clause-new c =
    sized c.args.frame.now (c.loop-rounds.rounds + 1) c.in_ok-next.next
    (c.in_ok-next.ensures c.loop-rounds.rounds c.loop-rounds.invariant.are_columns)

pub loop-rounds-preserved : goal.loop-rounds-preserved
loop-rounds-preserved c =
    next_round c.args.frame.now c.loop-rounds.rounds c.loop-rounds.columns c.in_ok-next.next c.args.text.now.items c.loop-rounds.text.items
    c.push_round.new.text.items c.order.ensures.ordered c.loop-rounds.invariant
    (c.in_ok-next.ensures c.loop-rounds.rounds c.loop-rounds.invariant.are_columns) c.in_ok-push_round.ensures.text
    (sym c.in_ok-push_round.ensures.changed ∙ c.if-not-branch.false)

pub returns-then-not-branch : goal.returns-then-not-branch
returns-then-not-branch c =
    last_round c.args.frame.now c.loop-rounds.rounds c.loop-rounds.columns c.in_ok-next.next c.args.text.now.items c.loop-rounds.text.items
    c.push_round.new.text.items c.order.ensures.ordered c.loop-rounds.invariant
    (c.in_ok-next.ensures c.loop-rounds.rounds c.loop-rounds.invariant.are_columns) c.in_ok-push_round.ensures.text
    (sym c.in_ok-push_round.ensures.changed ∙ c.if-not-branch.true)
