use Rattle.execution_laws.proofs.Executions.{dead_on_executions_is_safe, dead_variables_are_safe_on_executions, read_behind_is_read}
use Rattle.execution_laws.proofs.laws.dead_on_executions_is_safe.Goals as goal

pub returns-clause-shapes : goal.returns-clause-shapes
returns-clause-shapes c = dead_on_executions_is_safe

pub returns-clause-programs : goal.returns-clause-programs
returns-clause-programs c = dead_variables_are_safe_on_executions

pub returns-clause-runs : goal.returns-clause-runs
returns-clause-runs c = read_behind_is_read
