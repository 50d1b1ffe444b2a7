use Rattle.std.proofs.Common.{◌≡◌, take}
use Rattle.flow_builder.proofs.names.first_names.Given as goal

abbrev pub invariant-loop-number : goal.invariant-loop-number
invariant-loop-number l = l.first ≡ take l.number l.table
