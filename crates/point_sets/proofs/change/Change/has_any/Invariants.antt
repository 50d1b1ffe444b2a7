use Rattle.std.proofs.Common.{◌≡◌, ℕ, ◌<◌, false}
use Rattle.point_sets.specs.code.Changes.{shows_changed}
use Rattle.point_sets.proofs.change.Change.has_any.Given as goal

abbrev pub invariant-loop-bit : goal.invariant-loop-bit
invariant-loop-bit l = (k : ℕ) → k < l.bit → shows_changed l.self l.came k ≡ false
