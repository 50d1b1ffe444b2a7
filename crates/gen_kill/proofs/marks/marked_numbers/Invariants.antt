use Rattle.gen_kill.specs.Selections.{AreMarked}
use Rattle.gen_kill.proofs.marks.marked_numbers.Given as goal

abbrev pub invariant-loop-number : goal.invariant-loop-number
invariant-loop-number l = AreMarked l.marks l.number l.numbers.items
