use Rattle.std.proofs.Common.{◌≡◌, ◌≤◌, ◌-◌, drop, length}
use Rattle.tac_faults.specs.Hints.Near.{is_near}
use Rattle.tac_faults.proofs.near.is_near.Given as goal

-- What they begin with alike does not count.
abbrev pub invariant-loop-at : goal.invariant-loop-at
invariant-loop-at l = record {
  within : l.at ≤ length l.name;
  beside : l.at ≤ length l.other;
  rest : is_near (drop l.at l.name) (drop l.at l.other) ≡ is_near l.name l.other;
}

abbrev pub decreases-loop-at : goal.decreases-loop-at
decreases-loop-at l = length l.name - l.at
