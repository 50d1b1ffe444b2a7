use Rattle.std.proofs.Common.{◌≡◌, ◌+◌, ◌-◌, ◌/◌, ◌≤◌}
use Rattle.gk_solve.specs.Solved.{IsSliceOf}
use Rattle.gk_solve.proofs.take_words.solve_each.Given as goal

abbrev pub invariant-words : goal.invariant-words
invariant-words g l = record {
  slice : IsSliceOf l.problem l.slice;
  lo : l.slice.lo ≡ l.fn.slice.lo;
  hi : l.slice.hi ≡ l.fn.slice.hi;
  low : l.fn.slice.lo / 64 ≤ l.word;
  high : l.word ≤ (l.fn.slice.hi + 63) / 64;
  ready : g.T.TakeWords.is_ready l.taker l.problem l.fn.slice.lo l.fn.slice.hi;
  has : g.T.TakeWords.has l.fn.taker l.taker l.problem l.fn.slice.lo l.fn.slice.hi l.word;
}

abbrev pub decreases-words : goal.decreases-words
decreases-words g l = (l.fn.slice.hi + 63) / 64 - l.word
