use Rattle.std.proofs.Common.{◌≡◌, ◌<◌, ℕ, false, Bool, List, length, get_or, inl, inr, arith, ap, subst, sym, ◌∙◌}
use Rattle.std.proofs.Math.ListN.{length-set, set}
use Rattle.summary_equations.specs.Equations.{Entered, root_is_entered}
use Rattle.flow_graph.specs.declared.edge.Edge.{Edge}
use Rattle.flow_graph.specs.declared.edge.Edge.TheVariants.{Step, Call, Ret}
use Rattle.flow_graph.specs.Paths.{Shape, IsEdge}
use Rattle.flow_links.specs.Shapes.{directed_shape}
use Rattle.gk_solve.specs.Tables.Flags.{IsEntryClosedAt, IsFlagged, source_procedure}
use Rattle.gk_solve.specs.Tables.Visits.{IsSettled}
use Rattle.gk_solve.proofs.visits.FlagVisits.{all_entered, flag_within}
use Rattle.gk_solve.proofs.visits.Visits.{visit_falls, visit_settles_from, settled_but, all_closed}
use Rattle.gk_solve.proofs.enter.entered.Goals as goal

-- an edge that leaves a procedure without a flag is closed
unflagged_closed : (shape : Shape) (reached flags : List Bool) (edge : Edge) → (IsFlagged flags (source_procedure shape edge) → ⊥)
    → IsEntryClosedAt shape reached flags edge
unflagged_closed shape reached flags (Step x y) never = tt
unflagged_closed shape reached flags (Call site x y) never = λ flagged at_x. absurd (never flagged)
unflagged_closed shape reached flags (Ret site x y) never = tt

-- so each edge stays settled where the mark of such a procedure is taken
unflagged_settles : (shape : Shape) (reached flags dirty dirty_after : List Bool) (at : ℕ) → dirty_after ≡ set dirty at false
    → get_or flags at false ≡ false
    → ((edge : Edge) → IsEdge shape edge → IsSettled (IsEntryClosedAt shape reached) (source_procedure shape) flags dirty edge)
    → (edge : Edge) → IsEdge shape edge → IsSettled (IsEntryClosedAt shape reached) (source_procedure shape) flags dirty_after edge
unflagged_settles shape reached flags dirty dirty_after at taken clear before edge there =
    elim (settled_but (IsEntryClosedAt shape reached) (source_procedure shape) flags dirty at edge (before edge there)) [
      | inl same ↦ inl (unflagged_closed shape reached flags edge (λ flagged.
          let is : get_or flags (source_procedure shape edge) false ≡ false = ap (λ n. get_or flags n false) same ∙ clear in absurd (cc)))
      | inr still ↦ subst (λ (d : List Bool). IsSettled (IsEntryClosedAt shape reached) (source_procedure shape) flags d edge) (sym taken) still
    ]

pub enter_procedure-requires-clause-entered : goal.enter_procedure-requires-clause-entered
enter_procedure-requires-clause-entered c = subst (Entered (directed_shape c.args.links.now)) (sym c.root.ensures) root_is_entered

pub overflow_cast-procedure : goal.overflow_cast-procedure
overflow_cast-procedure c =
    let low : c.in-Some.procedure < length c.visits.dirty = flag_within c.visits.dirty c.in-Some.procedure c.in-Some.ensures.0 in
    omega (arith, low, c.visits.invariant.count, c.procedures.ensures)

pub visits-smaller-then-flags-procedure : goal.visits-smaller-then-flags-procedure
visits-smaller-then-flags-procedure c = visit_falls c.visits.flags c.visits.dirty c.visit_procedure.new.flags c.take.new.self
    c.visit_procedure.new.dirty
    c.in-Some.procedure c.in-Some.ensures.0 c.in-Some.ensures.1 c.visit_procedure.ensures.spreads

pub returns : goal.returns
returns c x = (
  c.visits.invariant.sound x,
  all_entered c.points.ensures.numbered c.args.reached.now c.visits.flags c.requires.reached
      (all_closed (IsEntryClosedAt (directed_shape c.args.links.now) c.args.reached.now) (directed_shape c.args.links.now)
      (source_procedure (directed_shape c.args.links.now)) c.visits.flags c.visits.dirty c.visits.invariant.settled c.in_default.ensures.0)
      c.visits.invariant.root x,
)

pub visits-init : goal.visits-init
visits-init c =
    let spreads = c.enter_procedure.ensures.spreads in
    record {
      count = spreads.count ∙ c.requires.dirty_count;
      settled = λ edge there. spreads.settled edge there
          (inl (unflagged_closed (directed_shape c.args.links.now) c.args.reached.now c.args.flags.now edge (c.requires.none _)));
      root = subst (IsFlagged c.enter_procedure.new.flags) c.root.ensures c.enter_procedure.ensures.flagged;
      sound = spreads.sound (λ x flagged. absurd (c.requires.none x flagged));
    }

pub visits-preserved-then-flags-procedure : goal.visits-preserved-then-flags-procedure
visits-preserved-then-flags-procedure c =
    let spreads = c.visit_procedure.ensures.spreads in
    record {
      count = spreads.count ∙ (ap length c.in-Some.ensures.1 ∙ (length-set c.visits.dirty c.in-Some.procedure false ∙ c.visits.invariant.count));
      settled = visit_settles_from (IsEntryClosedAt (directed_shape c.args.links.now) c.args.reached.now)
          (source_procedure (directed_shape c.args.links.now)) c.visits.flags c.visits.dirty c.visit_procedure.new.flags c.take.new.self
          c.visit_procedure.new.dirty
          c.in-Some.procedure c.in-Some.ensures.1 spreads c.visit_procedure.ensures.settled c.visits.invariant.settled;
      root = spreads.grows _ c.visits.invariant.root;
      sound = spreads.sound c.visits.invariant.sound;
    }

pub visits-preserved : goal.visits-preserved
visits-preserved c = record {
  count = ap length c.in-Some.ensures.1 ∙ (length-set c.visits.dirty c.in-Some.procedure false ∙ c.visits.invariant.count);
  settled = unflagged_settles (directed_shape c.args.links.now) c.args.reached.now c.visits.flags c.visits.dirty c.take.new.self c.in-Some.procedure
      c.in-Some.ensures.1 c.if-flags-procedure.false c.visits.invariant.settled;
  root = c.visits.invariant.root;
  sound = c.visits.invariant.sound;
}
