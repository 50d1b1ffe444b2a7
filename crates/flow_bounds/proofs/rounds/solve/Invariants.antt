use Rattle.flow_bounds.specs.code.Rounds.{AreWithin, Grow}
use Rattle.flow_bounds.proofs.rounds.solve.Given as goal

abbrev pub invariant-loop : goal.invariant-loop
invariant-loop l = record {
  grow : Grow l.fn.words l.words;
  within : AreWithin l.rules l.fn.words l.words;
}
