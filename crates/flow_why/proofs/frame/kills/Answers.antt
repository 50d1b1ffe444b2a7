use Rattle.std.proofs.Common.{◌<◌, sym, subst}
use Rattle.flow_graph.specs.Directions.{goes_backward}
use Rattle.flow_graph.specs.Points.{point_count}
use Rattle.flow_links.specs.Shapes.{LinkedProgram}
use Rattle.flow_why.specs.PointBits.{step_statement}
use Rattle.flow_why.specs.code.Frames.{IsAskedOf}
use Rattle.flow_why.proofs.visits.Reasons.{statement_low}
use Rattle.flow_why.proofs.frame.kills.Goals as goal

pub kills-requires-clause-point : goal.kills-requires-clause-point
kills-requires-clause-point c =
    let frame = c.args.frame.now in
    let b = goes_backward c.direction.result in
    let asked = subst (IsAskedOf frame.links.now) c.in-Column.is c.requires.frame.asked in
    subst (λ n. n < point_count c.in-Column.problem.now.program) (sym c.statement_point-point.ensures)
    (subst (λ (l : LinkedProgram). step_statement b c.args.from c.args.to < point_count l.program) asked.0
    (statement_low frame c.requires.frame c.args.from c.args.to b c.requires.there))
