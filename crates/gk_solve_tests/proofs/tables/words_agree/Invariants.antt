use Rattle.std.proofs.Common.{◌≡◌, ◌-◌}
use Rattle.gk_solve.specs.Solved.{IsSliceOf}
use Rattle.gk_solve_tests.proofs.tables.words_agree.Given as goal

abbrev pub invariant-groups : goal.invariant-groups
invariant-groups l = record {
  slice : IsSliceOf l.solver l.slice;
  hi : l.slice.hi ≡ l.hi;
}

abbrev pub decreases-groups : goal.decreases-groups
decreases-groups l = l.end - l.word
