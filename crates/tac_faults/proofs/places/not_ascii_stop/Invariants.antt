use Rattle.std.proofs.Common.{◌≡◌}
use Rattle.tac_faults.specs.Hints.Places.{is_not_ascii}
use Rattle.tac_faults.specs.Hints.Places.{run_stop}
use Rattle.tac_faults.proofs.places.not_ascii_stop.Given as goal

-- The run ends where the rest of it does.
abbrev pub invariant-loop-at : goal.invariant-loop-at
invariant-loop-at l = run_stop is_not_ascii l.text l.at ≡ run_stop is_not_ascii l.text l.place
