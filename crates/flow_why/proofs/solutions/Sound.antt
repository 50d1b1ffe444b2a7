-- What follows by one hop from what holds, holds
use Rattle.std.proofs.Common.{◌≡◌, ℕ, true, false, inl, inr, sym, subst}
use Rattle.flow_graph.specs.declared.edge.Edge.TheVariants.{Step}
use Rattle.flow_graph.specs.Paths.{Shape, Transfer, IsEdge, root}
use Rattle.flow_graph.specs.WellFormed.{IsWellFormed}
use Rattle.summary_equations.specs.Equations.{CallsAt, ReturnsTo, HasFlag}
use Rattle.summary_equations.specs.Equations.{Reached, entry_is_reached, reached_by_step, reached_by_call}
use Rattle.summary_equations.specs.Equations.{Preserved, preserved_at_entry, preserved_by_step, preserved_by_call}
use Rattle.summary_equations.specs.Equations.{Generated, generated_by_step, generated_before_step, generated_by_callee, generated_before_call}
use Rattle.summary_equations.specs.Equations.{Entered, root_is_entered, entered_by_call}
use Rattle.summary_equations.specs.Equations.{Brought, brought_by_boundary, brought_where_generated, brought_where_preserved}
use Rattle.flow_why.specs.code.Closed.{Family}
use Rattle.flow_why.specs.declared.claim.Claim.{Claim}
use Rattle.flow_why.specs.declared.claim.Claim.TheVariants as claim

module _ (shape : Shape) (transfer : Transfer) (well : IsWellFormed shape) where
  generated_reached : (x : ℕ) → Generated shape transfer x → Reached shape x
  generated_reached _ (generated_by_step x y edge reached gens) = reached_by_step x y edge reached
  generated_reached _ (generated_before_step x y edge reached generated unkilled) = reached_by_step x y edge reached
  generated_reached _ (generated_by_callee site x p z call return reached through generated) = reached_by_call site x p z call return reached through
  generated_reached _ (generated_before_call site x p z call return reached through generated kept) =
      reached_by_call site x p z call return reached through

  kept_reached : (x : ℕ) → Preserved shape transfer.kill x → Reached shape x
  kept_reached _ (preserved_at_entry p there) = entry_is_reached p there
  kept_reached _ (preserved_by_step x y edge reached preserved unkilled) = reached_by_step x y edge reached
  kept_reached _ (preserved_by_call site x p z call return reached through preserved kept) = reached_by_call site x p z call return reached through

  pub reached_of : (c : Claim) (x : ℕ) → Family shape transfer c x → Reached shape x
  reached_of claim.Holds x is = is.0.1
  reached_of claim.Generated x is = generated_reached x is
  reached_of claim.Preserved x is = kept_reached x is

  -- the procedures of two points that are one
  module _ (x y : ℕ) (same : shape.procedure_of x ≡ shape.procedure_of y) where
    entered_there : Entered shape (shape.procedure_of x) → Entered shape (shape.procedure_of y)
    entered_there entered = subst (Entered shape) same entered

    brought_there : Brought shape transfer (shape.procedure_of x) → Brought shape transfer (shape.procedure_of y)
    brought_there brought = subst (Brought shape transfer) same brought

  pub step_holds : (c : Claim) (x y : ℕ) → IsEdge shape (Step x y) → transfer.kill x y ≡ false → Family shape transfer c x → Family shape transfer c y
  step_holds claim.Holds x y edge unkilled is =
      let same = well.step_inside x y edge in (
        (entered_there x y same is.0.0, reached_by_step x y edge is.0.1),
        elim is.1 [
          | inl generated ↦ inl (generated_before_step x y edge is.0.1 generated unkilled)
          | inr brought ↦ inr (brought_there x y same brought.0, preserved_by_step x y edge is.0.1 brought.1 unkilled)
        ],
      )
  step_holds claim.Generated x y edge unkilled is = generated_before_step x y edge (generated_reached x is) is unkilled
  step_holds claim.Preserved x y edge unkilled is = preserved_by_step x y edge (kept_reached x is) is unkilled

  pub pass_holds : (c : Claim) (site x p z : ℕ) → CallsAt shape site x p → ReturnsTo shape site p z → Preserved shape transfer.kill (shape.exit p)
      → Family shape transfer c x → Family shape transfer c z
  pass_holds claim.Holds site x p z call return kept is =
      let same = well.site_inside site x (shape.entry p) (shape.exit p) z call.1 return in
      let through = kept_reached (shape.exit p) kept in (
        (entered_there x z same is.0.0, reached_by_call site x p z call return is.0.1 through),
        elim is.1 [
          | inl generated ↦ inl (generated_before_call site x p z call return is.0.1 through generated kept)
          | inr brought ↦ inr (brought_there x z same brought.0, preserved_by_call site x p z call return is.0.1 through brought.1 kept)
        ],
      )
  pass_holds claim.Generated site x p z call return kept is =
      generated_before_call site x p z call return (generated_reached x is) (kept_reached (shape.exit p) kept) is kept
  pass_holds claim.Preserved site x p z call return kept is =
      preserved_by_call site x p z call return (kept_reached x is) (kept_reached (shape.exit p) kept) is kept

  pub enter_holds : (site x p : ℕ) → CallsAt shape site x p → Family shape transfer claim.Holds x → Family shape transfer claim.Holds (shape.entry p)
  enter_holds site x p call is =
      let same = sym (well.entry_inside p call.0) in (
        (subst (Entered shape) same (entered_by_call site x p call is.0.0 is.0.1), entry_is_reached p call.0),
        inr (
          subst (Brought shape transfer) same (elim is.1 [
            | inl generated ↦ brought_where_generated site x p call is.0.0 is.0.1 generated
            | inr brought ↦ brought_where_preserved site x p call is.0.0 is.0.1 brought.0 brought.1
          ]),
          preserved_at_entry p call.0,
        ),
      )

  pub root_holds : transfer.boundary ≡ true → Family shape transfer claim.Holds (root shape)
  root_holds has =
      let same = sym (well.entry_inside shape.root_procedure well.root_in_range) in (
        (subst (Entered shape) same root_is_entered, entry_is_reached shape.root_procedure well.root_in_range),
        inr (subst (Brought shape transfer) same (brought_by_boundary has), preserved_at_entry shape.root_procedure well.root_in_range),
      )

  module _ (based : Claim → ℕ → Type 0) (ground_flags : (x : ℕ) → based claim.Holds x → HasFlag shape x)
      (ground_reaches : (x : ℕ) → based claim.Generated x → Reached shape x) (ground_none : (x : ℕ) → based claim.Preserved x → ⊥) where
    pub gen_holds : (c : Claim) (x y : ℕ) → IsEdge shape (Step x y) → transfer.gen x y ≡ true → based c x → Family shape transfer c y
    gen_holds claim.Holds x y edge gens here =
        let flag = ground_flags x here in (
          (entered_there x y (well.step_inside x y edge) flag.0, reached_by_step x y edge flag.1),
          inl (generated_by_step x y edge flag.1 gens),
        )
    gen_holds claim.Generated x y edge gens here = generated_by_step x y edge (ground_reaches x here) gens
    gen_holds claim.Preserved x y edge gens here = absurd (ground_none x here)

    pub callee_holds : (c : Claim) (site x p z : ℕ) → CallsAt shape site x p → ReturnsTo shape site p z → Generated shape transfer (shape.exit p)
        → based c x → Family shape transfer c z
    callee_holds claim.Holds site x p z call return made here =
        let flag = ground_flags x here in
        let through = generated_reached (shape.exit p) made in (
          (
            entered_there x z (well.site_inside site x (shape.entry p) (shape.exit p) z call.1 return) flag.0,
            reached_by_call site x p z call return flag.1 through,
          ),
          inl (generated_by_callee site x p z call return flag.1 through made),
        )
    callee_holds claim.Generated site x p z call return made here =
        generated_by_callee site x p z call return (ground_reaches x here) (generated_reached (shape.exit p) made) made
    callee_holds claim.Preserved site x p z call return made here = absurd (ground_none x here)
