use Rattle.std.proofs.Common.{◌≡◌}
use Rattle.tac_program.specs.Spelling.{is_name_byte}
use Rattle.tac_faults.specs.Hints.Places.{run_stop}
use Rattle.tac_faults.proofs.places.name_stop.Given as goal

-- The run ends where the rest of it does.
abbrev pub invariant-loop-at : goal.invariant-loop-at
invariant-loop-at l = run_stop is_name_byte l.text l.at ≡ run_stop is_name_byte l.text l.place
