use Rattle.std.proofs.Common.{◌≡◌, ◌++◌, drop, map}
use Rattle.tac_reader.specs.Faults.{refusal_at}
use Rattle.tac_faults.proofs.faults.located.Given as goal

-- The refusals so far and those of the rest are all.
abbrev pub invariant-loop-fault : goal.invariant-loop-fault
invariant-loop-fault l = l.found.items ++ map (refusal_at l.text) (drop l.fault-index l.fault-items) ≡ map (refusal_at l.text) l.fault-items
