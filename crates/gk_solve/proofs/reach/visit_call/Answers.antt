use Rattle.std.proofs.Common.{subst, sym}
use Rattle.summary_equations.specs.Equations.{Reached}
use Rattle.flow_links.specs.Shapes.{directed_shape}
use Rattle.gk_solve.proofs.visits.FlagVisits.{reached_across_call}
use Rattle.gk_solve.proofs.reach.visit_call.Goals as goal

pub reach_point-requires-clause-reached : goal.reach_point-requires-clause-reached
reach_point-requires-clause-reached c =
    let shape = directed_shape c.args.links.now in
    let call = c.requires.there in
    let at_exit = subst (Reached shape) call.3 (c.requires.sound c.args.call.exit c.if-flags-call.true) in
    subst (Reached shape) (sym call.4) (reached_across_call c.points.ensures.numbered call.0 c.args.at call.1 call.2 c.requires.reached at_exit)
