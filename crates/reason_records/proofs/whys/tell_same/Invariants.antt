use Rattle.std.proofs.Common.{◌<◌, ◌≤◌, ℕ, length}
use Rattle.reason_records.specs.code.Whys.{AreToldTo}
use Rattle.reason_records.proofs.whys.tell_same.Given as goal
use Rattle.std.proofs.Common.{◌-◌}

abbrev pub decreases-loop-at : goal.decreases-loop-at
decreases-loop-at l = length l.asked - l.at

abbrev pub invariant-loop-at : goal.invariant-loop-at
invariant-loop-at l =
    (l.from < l.at) × (l.at ≤ length l.asked)
    × ((number : ℕ) → AreToldTo l.fn.problem number l.asked l.from l.fn.told.whys.items l.fn.told.hops.items
    → AreToldTo l.fn.problem number l.asked l.at l.told.whys.items l.told.hops.items)
