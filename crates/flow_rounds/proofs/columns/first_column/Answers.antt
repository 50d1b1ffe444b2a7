use Rattle.std.proofs.Common.{rules, ◌+◌, ◌≤◌, subst, sym}
use Rattle.flow_rounds.specs.Rounds.{at_first}
use Rattle.flow_rounds.specs.Steps.{problem_at}
use Rattle.flow_rounds.specs.code.Frames.{TellsColumn, iteration_of}
use Rattle.flow_rounds.proofs.lists.Columns.{more_column, upto}
use Rattle.flow_rounds.proofs.columns.first_column.Goals as goal

pub loop-point-preserved : goal.loop-point-preserved
loop-point-preserved c =
    let low : c.args.frame.now.points.first ≤ c.loop-point.point = search rules in
    subst (λ column. TellsColumn (upto c.args.frame.now.points.first (c.loop-point.point + 1))
    (at_first (problem_at (iteration_of c.args.frame.now) c.args.bit) c.args.frame.now.procedure) column) (sym c.in_ok-push.ensures.items)
    (more_column c.args.frame.now.points.first c.loop-point.point
    (at_first (problem_at (iteration_of c.args.frame.now) c.args.bit) c.args.frame.now.procedure) c.loop-point.bits.items _ low
    c.loop-point.invariant
    c.begins.ensures)
