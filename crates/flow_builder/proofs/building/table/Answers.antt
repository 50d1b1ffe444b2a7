use Rattle.std.proofs.Common.{sym, subst}
use Rattle.flow_builder.specs.Checks.{IsBadName, IsTableFault}
use Rattle.flow_builder.specs.declared.arrays.BuiltNames.{BuiltNames}
use Rattle.flow_builder.proofs.Faults.{bad_name_fault}
use Rattle.flow_builder.proofs.building.table.Goals as goal

pub returns-in-Err-Bad-clause-fault : goal.returns-in-Err-Bad-clause-fault
returns-in-Err-Bad-clause-fault c =
    let below = rw c.in-Err-Bad.field-0-is at c.in-Err-Bad.ensures.fault in
    subst (IsTableFault c.args.arrays) (sym c.bad_name.ensures)
    (bad_name_fault c.args.which c.args.arrays c.in-Err-Bad.number
    (subst (λ (b : BuiltNames). IsBadName b c.in-Err-Bad.number) c.chosen.ensures below))
