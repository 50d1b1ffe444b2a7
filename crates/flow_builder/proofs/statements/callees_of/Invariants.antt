use Rattle.std.proofs.Common.{◌≡◌, take}
use Rattle.flow_builder.proofs.statements.callees_of.Given as goal

abbrev pub invariant-loop-procedure : goal.invariant-loop-procedure
invariant-loop-procedure l = l.callees ≡ take l.procedure-index l.procedures
