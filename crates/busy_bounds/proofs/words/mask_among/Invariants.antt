use Rattle.std.proofs.Common.{◌≡◌, ◌+◌, ◌*◌, ◌<◌, ℕ, true}
use Rattle.bit_rows.specs.Words.{has_bit}
use Rattle.busy_bounds.specs.code.Sets.{IsAmong}
use Rattle.busy_bounds.proofs.words.mask_among.Given as goal

abbrev pub invariant-loop-place : goal.invariant-loop-place
invariant-loop-place l = (k : ℕ) → k < 64 → IsAmong l.items l.fn.places.0 l.place (64 * l.word + k) → has_bit l.mask k ≡ true
