use Rattle.std.proofs.Common.{◌≡◌, ℕ, List, false}
use Rattle.flow_bounds.specs.code.Rounds.{AreClosedTo, AreWithin, Grow}
use Rattle.flow_bounds.proofs.rounds.round.Given as goal

abbrev pub invariant-loop-rule : goal.invariant-loop-rule
invariant-loop-rule l = record {
  grow : Grow l.fn.words l.words;
  within : (given : List ℕ) → AreWithin l.rules given l.fn.words → AreWithin l.rules given l.words;
  closed : l.changed ≡ false → AreClosedTo l.words l.rules l.rule-index;
}
