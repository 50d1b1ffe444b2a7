use Rattle.std.proofs.Common.{◌<◌, length, slice_index, sym, ap, subst, ◌∙◌, arith}
use Rattle.flow_graph.specs.Points.{point_count}
use Rattle.flow_bounds.specs.Clauses.{step_statement}
use Rattle.flow_bounds.proofs.telling.Statements.{statement_here}
use Rattle.flow_bounds.proofs.frame.Frame.statement.Goals as goal

pub bounds-self-point : goal.bounds-self-point
bounds-self-point c =
    let here = statement_here c.args.self.now c.args.from c.args.to c.requires.frame c.requires.there c.requires.inside in
    let same = c.statement_point-point.ensures ∙ ap (λ b. step_statement b c.args.from c.args.to) c.direction.ensures in
    let low : c.statement_point-point.result < point_count c.args.self.now.links.now.program = subst (λ n. n < point_count c.args.self.now.links.now.program) (sym same) here.0 in
    omega (arith, low, c.requires.frame.places)

pub returns-clause-below : goal.returns-clause-below
returns-clause-below c =
    let here = statement_here c.args.self.now c.args.from c.args.to c.requires.frame c.requires.there c.requires.inside in
    let same = c.statement_point-point.ensures ∙ ap (λ b. step_statement b c.args.from c.args.to) c.direction.ensures in
    subst (λ n. slice_index c.args.self.now.places.now n < length c.args.self.now.points.now) (sym same)
    (c.requires.frame.placed _ here.0 here.1).0
