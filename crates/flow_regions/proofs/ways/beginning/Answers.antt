use Rattle.std.proofs.Common.{◌<◌, ◌∙◌, sym, subst, arith}
use Rattle.flow_graph.specs.Points.{point_count}
use Rattle.flow_links.specs.Shapes.{directed_shape}
use Rattle.flow_regions.specs.code.Ways.{begins}
use Rattle.flow_regions.proofs.ways.beginning.Goals as goal

pub returns : goal.returns
returns c ways =
    let there : c.args.point < point_count c.args.links.now.program = omega (arith, c.if-point-points.false, c.points.ensures.count) in
    begins c.procedure_of-procedure.result
    (subst (λ p. p < (directed_shape c.args.links.now).procedures) (sym c.procedure_of-procedure.ensures)
    (c.points.ensures.numbered.procedure_in_range c.args.point there))
    (sym c.entry.ensures ∙ c.if-entry-point.false)
