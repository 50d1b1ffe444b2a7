use Rattle.flow_rounds.specs.Rounds.{at_first}
use Rattle.flow_rounds.specs.Steps.{problem_at}
use Rattle.flow_rounds.specs.code.Frames.{TellsColumn, iteration_of}
use Rattle.flow_rounds.proofs.lists.Columns.{upto}
use Rattle.flow_rounds.proofs.columns.first_column.Given as goal

abbrev pub invariant-loop-point : goal.invariant-loop-point
invariant-loop-point l =
    TellsColumn (upto l.frame.points.first l.point) (at_first (problem_at (iteration_of l.frame) l.bit) l.frame.procedure) l.bits.items
