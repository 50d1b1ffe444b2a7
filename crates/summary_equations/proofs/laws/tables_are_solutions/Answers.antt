use Rattle.summary_equations.proofs.tables.ProgramTables.{flags_are_solutions, may_tables_are_solutions, must_tables_are_solutions}
use Rattle.summary_equations.proofs.tables.ProgramTables.{tables_are_decided}
use Rattle.summary_equations.proofs.laws.tables_are_solutions.Goals as goal

pub returns-clause-flags : goal.returns-clause-flags
returns-clause-flags c = flags_are_solutions

pub returns-clause-may : goal.returns-clause-may
returns-clause-may c = may_tables_are_solutions

pub returns-clause-must : goal.returns-clause-must
returns-clause-must c = must_tables_are_solutions

pub returns-clause-decided : goal.returns-clause-decided
returns-clause-decided c = tables_are_decided
