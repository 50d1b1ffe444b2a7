use Rattle.std.proofs.Common.{◌≡◌, All, map, take}
use Rattle.flow_builder.specs.Built.{statement_of}
use Rattle.flow_builder.specs.Checks.{IsSoundNumbers}
use Rattle.flow_builder.proofs.statements.statements.Given as goal

abbrev pub invariant-loop-i : goal.invariant-loop-i
invariant-loop-i l = record {
  statements : l.statements.items ≡ map (statement_of l.callees) (take l.i l.built);
  sound : All (IsSoundNumbers l.counts.variables l.counts.labels l.counts.procedures l.callees) (take l.i l.built);
}
