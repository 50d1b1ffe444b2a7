use Rattle.std.proofs.Common.{◌≡◌, ◌<◌, ℕ, get_or, length}
use Rattle.worklist.specs.Worklist.{IsMarked}
use Rattle.gk_solve.proofs.reach.reach_point.Given as goal

abbrev pub invariant-loop-caller : goal.invariant-loop-caller
invariant-loop-caller l = record {
  count : length l.dirty ≡ length l.fn.dirty;
  here : IsMarked l.dirty l.at;
  keeps : (x : ℕ) → IsMarked l.fn.dirty x → IsMarked l.dirty x;
  done : (j : ℕ) → j < l.caller-index → IsMarked l.dirty (get_or l.callers j 0);
}
