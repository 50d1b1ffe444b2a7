use Rattle.std.proofs.Common.{inl}
use Rattle.flow_links.specs.Shapes.{directed_shape}
use Rattle.gk_solve.proofs.visits.FlagVisits.{flags_on, reach_by_source}
use Rattle.gk_solve.proofs.visits.Visits.{spreads_more}
use Rattle.gk_solve.proofs.reach.visit_point.Goals as goal

pub returns-then-flags-at-clause-spreads : goal.returns-then-flags-at-clause-spreads
returns-then-flags-at-clause-spreads c = spreads_more flags_on _ _ _ _ _ _ c.visit_steps.ensures.spreads c.visit_calls.ensures.spreads

pub returns-then-flags-at-clause-settled : goal.returns-then-flags-at-clause-settled
returns-then-flags-at-clause-settled c =
    reach_by_source (directed_shape c.args.links.now) c.args.links.now.backward c.visit_calls.new.flags c.visit_calls.new.dirty c.args.at
    (λ y there. inl (λ flagged. c.visit_calls.ensures.spreads.grows _ (c.visit_steps.ensures.flagged y there))) c.visit_calls.ensures.settled
