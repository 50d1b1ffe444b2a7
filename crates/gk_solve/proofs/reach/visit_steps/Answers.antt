use Rattle.std.proofs.Common.{◌<◌, get_or, arith, ◌∙◌}
use Rattle.std.proofs.lemmas.List.Elements.{All-get_or, Contains-get_or}
use Rattle.flow_graph.specs.Points.{point_count}
use Rattle.summary_equations.specs.Equations.{reached_by_step}
use Rattle.gk_solve.specs.Tables.Flags.{IsFlagged}
use Rattle.gk_solve.proofs.visits.FlagVisits.{flags_on}
use Rattle.gk_solve.proofs.visits.Listed.{each_listed}
use Rattle.gk_solve.proofs.visits.Visits.{spreads_more, place_more}
use Rattle.gk_solve.proofs.reach.visit_steps.Goals as goal

pub reach_point-requires : goal.reach_point-requires
reach_point-requires c =
    let list = c.steps_from-steps.result.now in
    let k = c.loop-to.to-index in
    let are = c.steps_from-steps.ensures in
    record {
      count = omega (arith, c.requires.count);
      dirty_count = c.loop-to.invariant.spreads.count ∙ c.requires.dirty_count;
      within = All-get_or (λ x. x < point_count c.args.links.now.program) list k 0 c.loop-to-test.true are.in_range;
      reached = reached_by_step c.args.at (get_or list k 0) ((are.listed (get_or list k 0)).0 (Contains-get_or list k 0 c.loop-to-test.true))
          c.requires.reached;
    }

pub loop-to-preserved : goal.loop-to-preserved
loop-to-preserved c = record {
  spreads = spreads_more flags_on _ _ _ _ _ _ c.loop-to.invariant.spreads c.reach_point.ensures.spreads;
  done = place_more (λ j. IsFlagged c.reach_point.new.flags (get_or c.steps_from-steps.result.now j 0)) c.loop-to.to-index
      (λ j below. c.reach_point.ensures.spreads.grows _ (c.loop-to.invariant.done j below)) c.reach_point.ensures.flagged;
}

pub returns-clause-flagged : goal.returns-clause-flagged
returns-clause-flagged c y there =
    each_listed (IsFlagged c.loop-to.flags) c.steps_from-steps.result.now 0 c.loop-to.to-index (omega arith) c.loop-to.invariant.done y
    ((c.steps_from-steps.ensures.listed y).1 there)
