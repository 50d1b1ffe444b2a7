use Rattle.std.proofs.Common.{◌*◌, ◌<◌, ◌≤◌, ℕ}
use Rattle.busy_bounds.specs.code.Sets.{IsAmong}
use Rattle.busy_bounds.proofs.words.end_among.Given as goal

abbrev pub invariant-loop-place : goal.invariant-loop-place
invariant-loop-place l = record {
  past : l.first ≤ l.last;
  before : l.last ≤ l.end;
  none : (number : ℕ) → IsAmong l.items l.fn.places.0 l.place number → 64 * l.last ≤ number → number < 64 * l.end → ⊥;
}
