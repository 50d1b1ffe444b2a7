use Rattle.std.proofs.Common.{◌≡◌, ◌++◌, ◌≤◌, All, drop, length, take}
use Rattle.std.specs.Prelude.{sum_by}
use Rattle.tac_program.specs.Sound.{IsSoundProcedure}
use Rattle.flow_builder.specs.Built.{procedures_from}
use Rattle.flow_builder.specs.Checks.{IsKnown}
use Rattle.flow_builder.specs.declared.arrays.BuiltProcedure.{BuiltProcedure}
use Rattle.flow_builder.proofs.building.procedures.Given as goal

abbrev pub invariant-loop-number : goal.invariant-loop-number
invariant-loop-number l = record {
  statement_in : l.statement ≤ length l.statements;
  label_in : l.label ≤ length l.places;
  statements_are : l.statement ≡ sum_by (λ (p : BuiltProcedure). p.statements) (take l.number l.built);
  labels_are : l.label ≡ sum_by (λ (p : BuiltProcedure). p.labels) (take l.number l.built);
  procedures : l.procedures.items ++ procedures_from l.shared.label_names.now l.shared.callees.now l.number (drop l.number l.built)
      (drop l.statement l.statements) (drop l.label l.places)
      ≡ procedures_from l.shared.label_names.now l.shared.callees.now 0 l.built l.statements l.places;
  sound : All (IsSoundProcedure l.shared.variables l.shared.procedures) l.procedures.items;
  named : All (λ (p : BuiltProcedure). p.labels ≤ length l.shared.label_names.now) (take l.number l.built);
  known : All (IsKnown l.shared.callees.now) (take l.statement l.statements);
}
