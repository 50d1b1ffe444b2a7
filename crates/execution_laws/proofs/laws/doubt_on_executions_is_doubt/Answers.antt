use Rattle.execution_laws.proofs.Executions.{doubt_on_executions_is_doubt, doubt_is_at_reached_points, reached_endless_is_doubtful}
use Rattle.execution_laws.proofs.laws.doubt_on_executions_is_doubt.Goals as goal

pub returns-clause-doubt : goal.returns-clause-doubt
returns-clause-doubt c = doubt_on_executions_is_doubt

pub returns-clause-reached : goal.returns-clause-reached
returns-clause-reached c = doubt_is_at_reached_points

pub returns-clause-endless : goal.returns-clause-endless
returns-clause-endless c = reached_endless_is_doubtful
