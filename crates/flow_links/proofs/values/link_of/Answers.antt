use Rattle.std.proofs.Common.{◌≡◌, ◌<◌, ◌+◌, false, arith, subst, sym}
use Rattle.flow_graph.specs.Analyses.{is_backward}
use Rattle.flow_graph.specs.Points.{point_count}
use Rattle.flow_links.specs.Shapes.{after_site}
use Rattle.flow_links.proofs.groups.ListLemmas.{after_low}
use Rattle.flow_links.proofs.shapes.ShapeLemmas.{in_range, ends, procedure_low, link_is_call}
use Rattle.flow_links.proofs.values.link_of.Goals as goal

pub procedure-requires : goal.procedure-requires
procedure-requires c = (ends (in_range c.args.problem.now.program c.args.problem.now.analysis c.procedures.ensures.sound c.points.ensures.few)
    c.args.edge _ c.requires c.in-Call.is).1

pub exit-exit-requires : goal.exit-exit-requires
exit-exit-requires c =
    let low = procedure_low (in_range c.args.problem.now.program c.args.problem.now.analysis c.procedures.ensures.sound c.points.ensures.few)
    c.in-Call.to (ends (in_range c.args.problem.now.program c.args.problem.now.analysis c.procedures.ensures.sound c.points.ensures.few)
    c.args.edge _ c.requires c.in-Call.is).1 in
    let is = c.procedure.ensures in
    omega (arith, low, is)

pub overflow_add-after : goal.overflow_add-after
overflow_add-after c =
    let range = (in_range c.args.problem.now.program c.args.problem.now.analysis c.procedures.ensures.sound c.points.ensures.few) in
    let low = after_low range.numbered c.in-Call.site _ _ (link_is_call range c.args.edge c.requires c.in-Call.is) in
    let forward : is_backward c.args.problem.now.analysis ≡ false = sym c.in-Forward.ensures in
    let next : c.in-Call.site + 1 < point_count c.args.problem.now.program =
    subst (λ b. after_site b c.in-Call.site < point_count c.args.problem.now.program) forward low in
    let few = range.few in
    omega (arith, next, few)
