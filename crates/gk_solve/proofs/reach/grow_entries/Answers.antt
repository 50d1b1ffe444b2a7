use Rattle.gk_solve.proofs.visits.Visits.{place_more, spreads_more}
use Rattle.gk_solve.proofs.visits.FlagVisits.{flags_on}
use Rattle.gk_solve.specs.Tables.Flags.{IsFlagged}
use Rattle.std.proofs.Common.{arith, subst, sym}
use Rattle.summary_equations.specs.Equations.{Reached, entry_is_reached}
use Rattle.flow_links.specs.Shapes.{directed_shape}
use Rattle.gk_solve.proofs.reach.grow_entries.Goals as goal

pub reach_point-requires-clause-reached : goal.reach_point-requires-clause-reached
reach_point-requires-clause-reached c =
    subst (Reached (directed_shape c.args.links.now)) (sym c.entry.ensures) (entry_is_reached c.loop-procedure.procedure (omega arith))

pub loop-procedure-preserved : goal.loop-procedure-preserved
loop-procedure-preserved c =
    let spreads = c.reach_point.ensures.spreads in
    record {
      spreads = spreads_more flags_on _ _ _ _ _ _ c.loop-procedure.invariant.spreads spreads;
      entries = place_more (λ p. IsFlagged c.reach_point.new.flags ((directed_shape c.args.links.now).entry p)) c.loop-procedure.procedure
          (λ p low. spreads.grows _ (c.loop-procedure.invariant.entries p low))
          (subst (IsFlagged c.reach_point.new.flags) c.entry.ensures c.reach_point.ensures.flagged);
    }
