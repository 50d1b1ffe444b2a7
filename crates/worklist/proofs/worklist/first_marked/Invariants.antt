use Rattle.std.specs.Bool.{⊤}
use Rattle.worklist.proofs.worklist.first_marked.Given as goal

abbrev pub invariant-loop-at : goal.invariant-loop-at
invariant-loop-at l = ⊤
