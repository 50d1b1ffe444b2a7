use Rattle.flow_links.proofs.shapes.ShapeLemmas.{in_range, ends}
use Rattle.flow_links.proofs.values.site_of.Goals as goal

pub procedure-requires : goal.procedure-requires
procedure-requires c = (ends (in_range c.args.problem.now.program c.args.problem.now.analysis c.procedures.ensures.sound c.points.ensures.few)
    c.args.edge _ c.requires c.in-Call.is).1
