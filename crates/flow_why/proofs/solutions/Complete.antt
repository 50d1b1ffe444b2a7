-- What a complete search has found is all of the least solution that was asked for
use Rattle.std.proofs.Common.{◌<◌, ◌≡◌, ℕ, Bool, true, false, inl, inr, refl, sym, subst}
use Rattle.flow_graph.specs.declared.edge.Edge.TheVariants.{Step}
use Rattle.flow_graph.specs.Paths.{Shape, Transfer, IsEdge}
use Rattle.flow_graph.specs.WellFormed.{IsWellFormed}
use Rattle.summary_equations.specs.Equations.{CallsAt, ReturnsTo, IsInSolution}
use Rattle.summary_equations.specs.Equations.{Reached, entry_is_reached, reached_by_step, reached_by_call}
use Rattle.summary_equations.specs.Equations.{Preserved, preserved_at_entry, preserved_by_step, preserved_by_call}
use Rattle.summary_equations.specs.Equations.{Generated, generated_by_step, generated_before_step, generated_by_callee, generated_before_call}
use Rattle.summary_equations.specs.Equations.{Entered, root_is_entered, entered_by_call}
use Rattle.summary_equations.specs.Equations.{Brought, brought_by_boundary, brought_where_generated, brought_where_preserved}
use Rattle.flow_why.specs.code.Closed.{IsBegun, IsClosed, IsGround, IsScope, Nowhere, Scope, idle_transfer, whole_scope}
use Rattle.flow_why.specs.declared.claim.Claim.{Claim}
use Rattle.flow_why.specs.declared.claim.Claim.TheVariants as claim

module _ (shape : Shape) (transfer : Transfer) (scope : Scope) (well : IsWellFormed shape) (based found : Claim → ℕ → Type 0)
    (closed : IsClosed shape transfer scope based found found) where
  -- at the entry of the point's procedure
  At : Claim → ℕ → Type 0
  At c x = found c (shape.entry (shape.procedure_of x))

  -- the entry of a procedure is that of its entry's and of its exit's
  entry_of_entry : (c : Claim) (p : ℕ) → p < shape.procedures → found c (shape.entry (shape.procedure_of (shape.entry p))) → found c (shape.entry p)
  entry_of_entry c p there at = subst (λ q. found c (shape.entry q)) (well.entry_inside p there) at

  entry_of_exit : (c : Claim) (p : ℕ) → p < shape.procedures → found c (shape.entry p) → found c (shape.entry (shape.procedure_of (shape.exit p)))
  entry_of_exit c p there at = subst (λ q. found c (shape.entry q)) (sym (well.exit_inside p there)) at

  -- back along a step, and a call that is passed
  before_step : (c : Claim) (x y : ℕ) → IsEdge shape (Step x y) → found c (shape.entry (shape.procedure_of y)) → found c (shape.entry
      (shape.procedure_of x))
  before_step c x y edge at = subst (λ q. found c (shape.entry q)) (sym (well.step_inside x y edge)) at

  before_call : (c : Claim) (site x p z : ℕ) → CallsAt shape site x p → ReturnsTo shape site p z → found c (shape.entry (shape.procedure_of z))
      → found c (shape.entry (shape.procedure_of x))
  before_call c site x p z call return at =
      subst (λ q. found c (shape.entry q)) (sym (well.site_inside site x (shape.entry p) (shape.exit p) z call.1 return)) at

  -- over a call whose callee is known to keep the bit, or is found to
  over_call : (c : Claim) (site x p z : ℕ) → CallsAt shape site x p → ReturnsTo shape site p z → found c x
      → (scope.kept p ≡ false → found claim.Preserved (shape.exit p)) → found c z
  over_call c site x p z call return here found_kept = by_test (scope.kept p) refl where
    by_test : (b : Bool) → scope.kept p ≡ b → found c z
    by_test true known = closed.keep c site x p z call return known here
    by_test false unkept = closed.pass c site x p z call return here (found_kept unkept)

  pub all_preserved : (x : ℕ) → Preserved shape transfer.kill x → found claim.Preserved (shape.entry (shape.procedure_of x)) → found claim.Preserved x
  all_preserved _ (preserved_at_entry p there) at = entry_of_entry claim.Preserved p there at
  all_preserved _ (preserved_by_step x y edge reached preserved unkilled) at =
      closed.step claim.Preserved x y edge unkilled (all_preserved x preserved (before_step claim.Preserved x y edge at))
  all_preserved _ (preserved_by_call site x p z call return reached through preserved kept) at =
      let here = all_preserved x preserved (before_call claim.Preserved site x p z call return at) in
      over_call claim.Preserved site x p z call return here
      (λ unkept. all_preserved (shape.exit p) kept (entry_of_exit claim.Preserved p call.0 (closed.begin claim.Preserved site x p call unkept here)))

  -- what a callee preserves is carried over its call from a point that was found
  carried : (c : Claim) (site x p z : ℕ) → CallsAt shape site x p → ReturnsTo shape site p z → found c x
      → Preserved shape transfer.kill (shape.exit p) → found c z
  carried c site x p z call return here kept =
      over_call c site x p z call return here
      (λ unkept. all_preserved (shape.exit p) kept (entry_of_exit claim.Preserved p call.0 (closed.begin c site x p call unkept here)))

  all_kept : (x : ℕ) → Preserved shape transfer.kill x → found claim.Holds (shape.entry (shape.procedure_of x)) → found claim.Holds x
  all_kept _ (preserved_at_entry p there) at = entry_of_entry claim.Holds p there at
  all_kept _ (preserved_by_step x y edge reached preserved unkilled) at =
      closed.step claim.Holds x y edge unkilled (all_kept x preserved (before_step claim.Holds x y edge at))
  all_kept _ (preserved_by_call site x p z call return reached through preserved kept) at =
      let here = all_kept x preserved (before_call claim.Holds site x p z call return at) in
      carried claim.Holds site x p z call return here kept

  module _ (begun : IsBegun shape transfer based found) (ground : IsGround shape based) where
    based_exit : (c : Claim) (site x p : ℕ) → CallsAt shape site x p → based c x → based claim.Generated (shape.entry (shape.procedure_of
        (shape.exit p)))
    based_exit c site x p call here = subst (λ q. based claim.Generated (shape.entry q)) (sym (well.exit_inside p call.0))
        (ground.begins c site x p call here)

    based_step : (x y : ℕ) → IsEdge shape (Step x y) → based claim.Generated (shape.entry (shape.procedure_of y))
        → based claim.Generated (shape.entry (shape.procedure_of x))
    based_step x y edge at = subst (λ q. based claim.Generated (shape.entry q)) (sym (well.step_inside x y edge)) at

    based_call : (site x p z : ℕ) → CallsAt shape site x p → ReturnsTo shape site p z → based claim.Generated (shape.entry (shape.procedure_of z))
        → based claim.Generated (shape.entry (shape.procedure_of x))
    based_call site x p z call return at =
        subst (λ q. based claim.Generated (shape.entry q)) (sym (well.site_inside site x (shape.entry p) (shape.exit p) z call.1 return)) at

    pub all_generated : (x : ℕ) → Generated shape transfer x → based claim.Generated (shape.entry (shape.procedure_of x)) → found claim.Generated x
    all_generated _ (generated_by_step x y edge reached gens) at =
        begun.gens claim.Generated x y edge gens (ground.all_reached x reached (based_step x y edge at))
    all_generated _ (generated_before_step x y edge reached generated unkilled) at =
        closed.step claim.Generated x y edge unkilled (all_generated x generated (based_step x y edge at))
    all_generated _ (generated_by_callee site x p z call return reached through generated) at =
        let here = ground.all_reached x reached (based_call site x p z call return at) in
        closed.generate claim.Generated site x p z call return here
        (all_generated (shape.exit p) generated (based_exit claim.Generated site x p call here))
    all_generated _ (generated_before_call site x p z call return reached through generated kept) at =
        let here = all_generated x generated (based_call site x p z call return at) in
        carried claim.Generated site x p z call return here kept

    -- a bit that is generated at a point to which a valid path leads
    all_made : (x : ℕ) → Generated shape transfer x → Entered shape (shape.procedure_of x) → found claim.Holds x
    all_made _ (generated_by_step x y edge reached gens) entered =
        begun.gens claim.Holds x y edge gens (ground.all_flags x (subst (Entered shape) (sym (well.step_inside x y edge)) entered, reached))
    all_made _ (generated_before_step x y edge reached generated unkilled) entered =
        closed.step claim.Holds x y edge unkilled (all_made x generated (subst (Entered shape) (sym (well.step_inside x y edge)) entered))
    all_made _ (generated_by_callee site x p z call return reached through generated) entered =
        let here = ground.all_flags x
        (subst (Entered shape) (sym (well.site_inside site x (shape.entry p) (shape.exit p) z call.1 return)) entered, reached) in
        closed.generate claim.Holds site x p z call return here
        (all_generated (shape.exit p) generated (based_exit claim.Holds site x p call here))
    all_made _ (generated_before_call site x p z call return reached through generated kept) entered =
        let here = all_made x generated
        (subst (Entered shape) (sym (well.site_inside site x (shape.entry p) (shape.exit p) z call.1 return)) entered) in
        carried claim.Holds site x p z call return here kept

    module _ (scoped : IsScope shape scope) where
      all_brought : (p : ℕ) → Brought shape transfer p → scope.skipped p ≡ false → found claim.Holds (shape.entry p)
      all_brought _ (brought_by_boundary has) into = begun.boundary has
      all_brought _ (brought_where_generated site x p call entered reached generated) into =
          closed.enter site x p call into (all_made x generated entered)
      all_brought _ (brought_where_preserved site x p call entered reached brought preserved) into =
          closed.enter site x p call into (all_kept x preserved (all_brought (shape.procedure_of x) brought (scoped site x p call into)))

      -- the whole solution is found in procedures to which the bit is brought
      pub all_found : (x : ℕ) → IsInSolution shape transfer x → scope.skipped (shape.procedure_of x) ≡ false → found claim.Holds x
      all_found x member into = elim member.1 [
        | inl generated ↦ all_made x generated member.0.0
        | inr brought ↦ all_kept x brought.1 (all_brought (shape.procedure_of x) brought.0 into)
      ]

-- ---- the search of the bit that is always there finds where paths lead
reached_kept : (shape : Shape) (x : ℕ) → Reached shape x → Preserved shape idle_transfer.kill x
reached_kept shape _ (entry_is_reached p there) = preserved_at_entry p there
reached_kept shape _ (reached_by_step x y edge reached) = preserved_by_step x y edge reached (reached_kept shape x reached) refl
reached_kept shape _ (reached_by_call site x p z call return reached through) =
    preserved_by_call site x p z call return reached through (reached_kept shape x reached) (reached_kept shape (shape.exit p) through)

kept_reached : (shape : Shape) (kill : ℕ → ℕ → Bool) (x : ℕ) → Preserved shape kill x → Reached shape x
kept_reached shape kill _ (preserved_at_entry p there) = entry_is_reached p there
kept_reached shape kill _ (preserved_by_step x y edge reached preserved unkilled) = reached_by_step x y edge reached
kept_reached shape kill _ (preserved_by_call site x p z call return reached through preserved kept) =
    reached_by_call site x p z call return reached through

module _ (shape : Shape) (well : IsWellFormed shape) (found : Claim → ℕ → Type 0)
    (closed : IsClosed shape idle_transfer whole_scope Nowhere found found) (begun : IsBegun shape idle_transfer Nowhere found) where
  all_entered : (p : ℕ) → Entered shape p → found claim.Holds (shape.entry p)
  all_entered _ root_is_entered = begun.boundary refl
  all_entered _ (entered_by_call site x p call entered reached) =
      closed.enter site x p call refl (all_kept shape idle_transfer whole_scope well Nowhere found closed x (reached_kept shape x reached)
      (all_entered (shape.procedure_of x) entered))

  -- what it has found is where paths lead
  abbrev pub based_on : Claim → ℕ → Type 0
  based_on claim.Holds x = found claim.Holds x
  based_on claim.Generated x = found claim.Preserved x
  based_on claim.Preserved x = ⊥

  begins : (c : Claim) (site x p : ℕ) → CallsAt shape site x p → based_on c x → based_on claim.Generated (shape.entry p)
  begins claim.Holds site x p call here = closed.begin claim.Holds site x p call refl here
  begins claim.Generated site x p call here = closed.begin claim.Preserved site x p call refl here
  begins claim.Preserved site x p call here = absurd here

  pub ground_of : ((x : ℕ) → found claim.Holds x → IsInSolution shape idle_transfer x)
      → ((x : ℕ) → found claim.Preserved x → Preserved shape idle_transfer.kill x) → IsGround shape based_on
  ground_of holds kept = record {
    flags = λ x here. (holds x here).0;
    reaches = λ x here. kept_reached shape idle_transfer.kill x (kept x here);
    none = λ x here. here;
    all_flags = λ x flag. all_kept shape idle_transfer whole_scope well Nowhere found closed x (reached_kept shape x flag.1)
        (all_entered (shape.procedure_of x) flag.0);
    all_reached = λ x reached at. all_preserved shape idle_transfer whole_scope well Nowhere found closed x (reached_kept shape x reached) at;
    begins = begins;
  }
