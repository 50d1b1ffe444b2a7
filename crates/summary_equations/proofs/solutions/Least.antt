-- Anything closed under the clauses includes the least solution
use Rattle.std.proofs.Common.{ℕ, Bool, sym, ◌∙◌, ◌⊎◌, inl, inr}
use Rattle.flow_graph.specs.Paths.{Shape, Transfer}
use Rattle.flow_graph.specs.WellFormed.{AgreesOnSteps}
use Rattle.summary_equations.specs.Equations.{Reached, entry_is_reached, reached_by_step, reached_by_call, Preserved, preserved_at_entry, preserved_by_step}
use Rattle.summary_equations.specs.Equations.{preserved_by_call}
use Rattle.summary_equations.specs.Equations.{Generated, generated_by_step, generated_before_step, generated_by_callee, generated_before_call, Entered, root_is_entered}
use Rattle.summary_equations.specs.Equations.{entered_by_call, Brought, brought_by_boundary, brought_where_generated, brought_where_preserved, IsInSolution}
use Rattle.summary_equations.specs.Equations.{IsClosedReached, IsClosedPreserved, IsClosedGenerated, IsClosedEntered, IsClosedBrought}
use Rattle.summary_equations.specs.Laws.{SolutionIsClosed, ReachedIsLeast, PreservedIsLeast, GeneratedIsLeast, EnteredIsLeast, BroughtIsLeast, BitsAreApart}

pub reached_least : {shape : Shape} {reached : ℕ → Type 0} → IsClosedReached shape reached → {x : ℕ} → Reached shape x → reached x
reached_least r (entry_is_reached p in_range) = r.entry p in_range
reached_least r (reached_by_step x y edge at_x) = r.step x y edge (reached_least r at_x)
reached_least r (reached_by_call site x p z call return at_x at_exit) = r.call site x p z call return (reached_least r at_x) (reached_least r at_exit)

pub preserved_least : {shape : Shape} {kill : ℕ → ℕ → Bool} {reached preserved : ℕ → Type 0} → IsClosedReached shape reached
    → IsClosedPreserved shape kill reached preserved → {x : ℕ} → Preserved shape kill x → preserved x
preserved_least r k (preserved_at_entry p in_range) = k.entry p in_range
preserved_least r k (preserved_by_step x y edge at_x before unkilled) = k.step x y edge (reached_least r at_x) (preserved_least r k before) unkilled
preserved_least r k (preserved_by_call site x p z call return at_x at_exit before through) =
    k.call site x p z call return (reached_least r at_x) (reached_least r at_exit) (preserved_least r k before) (preserved_least r k through)

pub generated_least : {shape : Shape} {transfer : Transfer} {reached preserved generated : ℕ → Type 0} → IsClosedReached shape reached
    → IsClosedPreserved shape transfer.kill reached preserved
    → IsClosedGenerated shape transfer reached preserved generated → {x : ℕ} → Generated shape transfer x → generated x
generated_least r k m (generated_by_step x y edge at_x gens) = m.by_step x y edge (reached_least r at_x) gens
generated_least r k m (generated_before_step x y edge at_x before unkilled) = m.before_step x y edge (reached_least r at_x) (generated_least r k m before) unkilled
generated_least r k m (generated_by_callee site x p z call return at_x at_exit through) =
    m.by_callee site x p z call return (reached_least r at_x) (reached_least r at_exit) (generated_least r k m through)
generated_least r k m (generated_before_call site x p z call return at_x at_exit before through) =
    m.before_call site x p z call return (reached_least r at_x) (reached_least r at_exit) (generated_least r k m before) (preserved_least r k through)

pub entered_least : {shape : Shape} {reached entered : ℕ → Type 0} → IsClosedReached shape reached → IsClosedEntered shape reached entered
    → {procedure : ℕ} → Entered shape procedure → entered procedure
entered_least r e root_is_entered = e.root
entered_least r e (entered_by_call site x p call caller at_x) = e.call site x p call (entered_least r e caller) (reached_least r at_x)

pub brought_least : {shape : Shape} {transfer : Transfer} {reached preserved generated entered brought : ℕ → Type 0} → IsClosedReached shape reached
    → IsClosedPreserved shape transfer.kill reached preserved
    → IsClosedGenerated shape transfer reached preserved generated → IsClosedEntered shape reached entered
    → IsClosedBrought shape transfer reached preserved generated entered brought
    → {procedure : ℕ} → Brought shape transfer procedure → brought procedure
brought_least r k m e b (brought_by_boundary has) = b.boundary has
brought_least r k m e b (brought_where_generated site x p call caller at_x generated) =
    b.where_generated site x p call (entered_least r e caller) (reached_least r at_x) (generated_least r k m generated)
brought_least r k m e b (brought_where_preserved site x p call caller at_x before preserved) =
    b.where_preserved site x p call (entered_least r e caller) (reached_least r at_x) (brought_least r k m e b before) (preserved_least r k preserved)

pub reached_is_least : ReachedIsLeast
reached_is_least shape reached r x at_x = reached_least r at_x

pub preserved_is_least : PreservedIsLeast
preserved_is_least shape kill reached preserved r k x at_x = preserved_least r k at_x

pub generated_is_least : GeneratedIsLeast
generated_is_least shape transfer reached preserved generated r k m x at_x = generated_least r k m at_x

pub entered_is_least : EnteredIsLeast
entered_is_least shape reached entered r e p at_p = entered_least r e at_p

pub brought_is_least : BroughtIsLeast
brought_is_least shape transfer reached preserved generated entered brought r k m e b p at_p = brought_least r k m e b at_p

module _ (shape : Shape) (transfer other : Transfer) (agrees : AgreesOnSteps shape transfer other) where
  reached_closed : IsClosedReached shape (Reached shape)
  reached_closed = record { entry = entry_is_reached; step = reached_by_step; call = reached_by_call }

  entered_closed : IsClosedEntered shape (Reached shape) (Entered shape)
  entered_closed = record { root = root_is_entered; call = entered_by_call }

  preserved_closed : IsClosedPreserved shape transfer.kill (Reached shape) (Preserved shape other.kill)
  preserved_closed = record {
    entry = preserved_at_entry;
    step = λ x y edge at_x preserved unkilled. preserved_by_step x y edge at_x preserved (sym (agrees.same_kill x y edge) ∙ unkilled);
    call = preserved_by_call;
  }

  generated_closed : IsClosedGenerated shape transfer (Reached shape) (Preserved shape other.kill) (Generated shape other)
  generated_closed = record {
    by_step = λ x y edge at_x has. generated_by_step x y edge at_x (sym (agrees.same_gen x y edge) ∙ has);
    before_step = λ x y edge at_x generated unkilled. generated_before_step x y edge at_x generated (sym (agrees.same_kill x y edge) ∙ unkilled);
    by_callee = generated_by_callee;
    before_call = generated_before_call;
  }

  brought_closed : IsClosedBrought shape transfer (Reached shape) (Preserved shape other.kill) (Generated shape other) (Entered shape) (Brought shape other)
  brought_closed = record {
    boundary = λ has. brought_by_boundary (sym agrees.same_boundary ∙ has);
    where_generated = brought_where_generated;
    where_preserved = brought_where_preserved;
  }

  solution_includes : (x : ℕ) → IsInSolution shape transfer x → IsInSolution shape other x
  solution_includes x member = (member.0, go member.1)
    where
      go : Generated shape transfer x ⊎ (Brought shape transfer (shape.procedure_of x) × Preserved shape transfer.kill x)
          → Generated shape other x ⊎ (Brought shape other (shape.procedure_of x) × Preserved shape other.kill x)
      go (inl generated) = inl (generated_least reached_closed preserved_closed generated_closed generated)
      go (inr preserved) = inr
          (brought_least reached_closed preserved_closed generated_closed entered_closed brought_closed preserved.0, preserved_least reached_closed preserved_closed preserved.1)

pub bits_are_apart : BitsAreApart
bits_are_apart shape transfer other x agrees =
    let back : AgreesOnSteps shape other transfer = record {
      same_gen = λ u v edge. sym (agrees.same_gen u v edge);
      same_kill = λ u v edge. sym (agrees.same_kill u v edge);
      same_boundary = sym agrees.same_boundary;
    } in
    (solution_includes shape transfer other agrees x, solution_includes shape other transfer back x)

pub solution_is_closed : SolutionIsClosed
solution_is_closed shape transfer = (
  record { entry = entry_is_reached; step = reached_by_step; call = reached_by_call },
  record { entry = preserved_at_entry; step = preserved_by_step; call = preserved_by_call },
  record { by_step = generated_by_step; before_step = generated_before_step; by_callee = generated_by_callee; before_call = generated_before_call },
  record { root = root_is_entered; call = entered_by_call },
  record { boundary = brought_by_boundary; where_generated = brought_where_generated; where_preserved = brought_where_preserved },
)
