use Rattle.solution_bounds.proofs.selections.Selections.{selections_are_solved, selected_bits_are_solved}
use Rattle.solution_bounds.proofs.laws.selections_are_solved.Goals as goal

pub returns-clause-transfers : goal.returns-clause-transfers
returns-clause-transfers c = selections_are_solved

pub returns-clause-analyses : goal.returns-clause-analyses
returns-clause-analyses c = selected_bits_are_solved
