use Rattle.std.proofs.Common.{◌≡◌, ◌<◌, ℕ, length, get_or}
use Rattle.worklist.specs.Worklist.{IsMarked}
use Rattle.gk_solve.proofs.group.wake.Given as goal

abbrev pub invariant-loop-caller : goal.invariant-loop-caller
invariant-loop-caller l = record {
  count : length l.dirty ≡ length l.fn.dirty;
  keeps : (x : ℕ) → IsMarked l.fn.dirty x → IsMarked l.dirty x;
  itself : IsMarked l.dirty l.at;
  done : (j d : ℕ) → j < l.caller-index → IsMarked l.dirty (get_or l.callers j d);
}
