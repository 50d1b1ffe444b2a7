use Rattle.std.proofs.Common.{◌≡◌, ◌++◌, map, take}
use Rattle.reason_records.specs.Around.{variable_nearby}
use Rattle.reason_records.proofs.around.put_variables.Given as goal

abbrev pub invariant-loop-variable : goal.invariant-loop-variable
invariant-loop-variable l = l.nearby.items ≡ l.initial.nearby.items ++ map (variable_nearby l.kind) (take l.variable-index l.variables)
