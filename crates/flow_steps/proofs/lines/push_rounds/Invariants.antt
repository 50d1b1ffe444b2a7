use Rattle.flow_steps.specs.code.Told.{KeepsRounds}
use Rattle.flow_steps.proofs.lines.push_rounds.Given as goal

abbrev pub invariant-loop-rounds : goal.invariant-loop-rounds
invariant-loop-rounds l = KeepsRounds l.frame l.rounds l.columns l.fn.text.items l.text.items
