use Rattle.execution_laws.proofs.Executions.{executions_are_reached, undoubted_executions_finish, executions_extend}
use Rattle.execution_laws.proofs.laws.executions_extend.Goals as goal

pub returns-clause-reached : goal.returns-clause-reached
returns-clause-reached c = executions_are_reached

pub returns-clause-finishing : goal.returns-clause-finishing
returns-clause-finishing c = undoubted_executions_finish

pub returns-clause-extended : goal.returns-clause-extended
returns-clause-extended c = executions_extend
