use Rattle.std.proofs.Common.{subst, sym}
use Rattle.summary_equations.specs.Equations.{Entered}
use Rattle.flow_links.specs.Shapes.{directed_shape}
use Rattle.gk_solve.proofs.visits.FlagVisits.{entered_across_call}
use Rattle.gk_solve.proofs.enter.visit_site.Goals as goal

pub enter_procedure-requires-clause-entered : goal.enter_procedure-requires-clause-entered
enter_procedure-requires-clause-entered c =
    let shape = directed_shape c.args.links.now in
    let site = c.requires.there in
    subst (Entered shape) (sym site.4)
    (entered_across_call c.points.ensures.numbered site.0 c.args.site.point site.1 site.2 (subst (Entered shape) (sym site.3) c.requires.entered)
    ((c.requires.reached c.args.site.point).0 c.if-reached-site.true))
