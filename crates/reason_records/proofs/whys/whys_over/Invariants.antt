use Rattle.std.proofs.Common.{◌-◌, ◌≤◌, ℕ, length}
use Rattle.reason_records.specs.code.Whys.{AreToldTo}
use Rattle.reason_records.proofs.whys.whys_over.Given as goal

abbrev pub decreases-loop-from : goal.decreases-loop-from
decreases-loop-from l = length l.asked - l.from

abbrev pub invariant-loop-from : goal.invariant-loop-from
invariant-loop-from l =
    (l.from ≤ length l.asked) × ((number : ℕ) → AreToldTo l.problem number l.asked l.from l.told.whys.items l.told.hops.items)
