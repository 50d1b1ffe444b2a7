use Rattle.summary_equations.proofs.solutions.Least.{reached_is_least, preserved_is_least, generated_is_least, entered_is_least, brought_is_least}
use Rattle.summary_equations.proofs.laws.solution_is_least.Goals as goal

pub returns-clause-reached : goal.returns-clause-reached
returns-clause-reached c = reached_is_least

pub returns-clause-preserved : goal.returns-clause-preserved
returns-clause-preserved c = preserved_is_least

pub returns-clause-generated : goal.returns-clause-generated
returns-clause-generated c = generated_is_least

pub returns-clause-entered : goal.returns-clause-entered
returns-clause-entered c = entered_is_least

pub returns-clause-brought : goal.returns-clause-brought
returns-clause-brought c = brought_is_least
