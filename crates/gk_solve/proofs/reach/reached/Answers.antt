use Rattle.std.proofs.Common.{Bool, List, false, length, inl, ap, ◌∙◌}
use Rattle.std.proofs.Math.ListN.{length-set}
use Rattle.flow_graph.specs.declared.edge.Edge.{Edge}
use Rattle.flow_graph.specs.declared.edge.Edge.TheVariants.{Step, Call, Ret}
use Rattle.flow_links.specs.Shapes.{directed_shape}
use Rattle.flow_graph.specs.Paths.{Shape, source_of}
use Rattle.gk_solve.specs.Tables.Flags.{IsFlagged, IsReachClosedAt}
use Rattle.gk_solve.proofs.visits.FlagVisits.{all_reached}
use Rattle.gk_solve.proofs.visits.Visits.{visit_falls, visit_settles_from, all_closed}
use Rattle.gk_solve.proofs.reach.reached.Goals as goal

-- an edge that leaves a point without a flag is closed
unflagged_closed : (shape : Shape) (backward : Bool) (flags : List Bool) (edge : Edge) → (IsFlagged flags (source_of edge) → ⊥)
    → IsReachClosedAt shape backward flags edge
unflagged_closed shape backward flags (Step x y) never = λ flagged. absurd (never flagged)
unflagged_closed shape backward flags (Call site x y) never = λ flagged through. absurd (never flagged)
unflagged_closed shape backward flags (Ret site x y) never = tt

pub visits-smaller : goal.visits-smaller
visits-smaller c = visit_falls c.visits.flags c.visits.dirty c.visit_point.new.flags c.take.new.self c.visit_point.new.dirty c.in-Some.at
    c.in-Some.ensures.0
    c.in-Some.ensures.1 c.visit_point.ensures.spreads

pub returns : goal.returns
returns c x = (
  c.visits.invariant.sound x,
  all_reached c.points.ensures.numbered c.visits.flags
      (all_closed (IsReachClosedAt (directed_shape c.args.links.now) c.args.links.now.backward) (directed_shape c.args.links.now)
      source_of c.visits.flags c.visits.dirty c.visits.invariant.settled c.in_default.ensures.0)
      c.visits.invariant.entries x,
)

pub visits-init : goal.visits-init
visits-init c =
    let spreads = c.grow_entries.ensures.spreads in
    record {
      count = spreads.count ∙ c.requires.dirty_count;
      settled = λ edge there. spreads.settled edge there
          (inl (unflagged_closed (directed_shape c.args.links.now) c.args.links.now.backward c.args.flags.now edge (c.requires.none _)));
      entries = c.grow_entries.ensures.entries;
      sound = spreads.sound (λ x flagged. absurd (c.requires.none x flagged));
    }

pub visits-preserved : goal.visits-preserved
visits-preserved c =
    let spreads = c.visit_point.ensures.spreads in
    record {
      count = spreads.count ∙ (ap length c.in-Some.ensures.1 ∙ (length-set c.visits.dirty c.in-Some.at false ∙ c.visits.invariant.count));
      settled = visit_settles_from (IsReachClosedAt (directed_shape c.args.links.now) c.args.links.now.backward)
          source_of c.visits.flags c.visits.dirty c.visit_point.new.flags c.take.new.self c.visit_point.new.dirty c.in-Some.at c.in-Some.ensures.1
          spreads
          c.visit_point.ensures.settled c.visits.invariant.settled;
      entries = λ p low. spreads.grows _ (c.visits.invariant.entries p low);
      sound = spreads.sound c.visits.invariant.sound;
    }
