-- The values of a quotient are closed under the clauses at all points and procedures
use Rattle.std.proofs.Common.{◌≡◌, ℕ, Bool, true, false, not, ◌&&◌, ◌||◌, ◌⊎◌, inl, inr, refl, sym, ◌∙◌, ap, subst}
use Rattle.std.specs.Prelude.{if◌then◌else◌, ◌<◌}
use Rattle.std.proofs.lemmas.Bool.{and_from, and_parts, or_left, or_right}
use Rattle.flow_graph.specs.Paths.{Shape, Transfer}
use Rattle.flow_graph.specs.WellFormed.{IsWellFormed}
use Rattle.summary_equations.specs.Equations.{CallsAt, ReturnsTo, Reached, Preserved, Generated, Entered, Brought, IsClosedReached}
use Rattle.summary_equations.specs.Equations.{IsClosedPreserved, IsClosedGenerated, IsClosedEntered, IsClosedBrought}
use Rattle.summary_equations.specs.Equations.{entry_is_reached, reached_by_step, reached_by_call, root_is_entered, entered_by_call}
use Rattle.summary_equations.specs.Laws.{Passes}
use Rattle.summary_equations.proofs.solutions.Least.{preserved_least, generated_least, brought_least}
use Rattle.solution_bounds.specs.Quotients.{Quotient, values_of, preserved_by, generated_by, brought_by, callee_preserves, callee_generates, IsInside}
use Rattle.solution_bounds.specs.Quotients.{IsOutside, IsQuotientBound}
use Rattle.solution_bounds.specs.Laws.{QuotientsAreClosed, QuotientsAreAbove, QuotientsBoundPoints}
use Rattle.solution_bounds.proofs.bounds.Bounds.{closed_values_are_above}

-- a choice passes where each of its sides does
pub choose : (test a b : Bool) → (test ≡ true → a ≡ true) → (test ≡ false → b ≡ true) → (if test then a else b) ≡ true
choose true a b at_first at_second = at_first refl
choose false a b at_first at_second = at_second refl

pub chosen_first : (test a b : Bool) → test ≡ true → (if test then a else b) ≡ true → a ≡ true
chosen_first true a b is passes = passes
chosen_first false a b is passes = absurd (cc is)

pub chosen_second : (test a b : Bool) → test ≡ false → (if test then a else b) ≡ true → b ≡ true
chosen_second true a b is passes = absurd (cc is)
chosen_second false a b is passes = passes

cases : {A : Type 0} (test : Bool) → (test ≡ true → A) → (test ≡ false → A) → A
cases true at_true at_false = at_true refl
cases false at_true at_false = at_false refl

module _ (shape : Shape) (transfer : Transfer) (reached entered : ℕ → Type 0) (quotient : Quotient) (well : IsWellFormed shape)
    (bound : IsQuotientBound shape transfer reached entered quotient) where
  -- what holds at a procedure's exit is the effect of its calls
  exit_preserves : (procedure : ℕ) → procedure < shape.procedures → Passes (preserved_by shape quotient) (shape.exit procedure)
      → Passes (callee_preserves shape quotient) procedure
  exit_preserves p in_range passes =
      subst (λ r. (if quotient.inside r then quotient.preserved (shape.exit p) else true) ≡ true) (well.exit_inside p in_range) passes

  exit_generates : (procedure : ℕ) → procedure < shape.procedures → Passes (generated_by shape quotient) (shape.exit procedure)
      → Passes (callee_generates shape quotient) procedure
  exit_generates p in_range passes =
      subst (λ r. (if quotient.inside r then quotient.generated (shape.exit p) else (quotient.outside_generates && quotient.leads r)) ≡ true)
      (well.exit_inside p in_range) passes

  pub preserved_closed : IsClosedPreserved shape transfer.kill reached (Passes (preserved_by shape quotient))
  preserved_closed = record {
    entry = λ p in_range. choose _ _ _
        (λ inside. bound.preserved.entry p in_range (ap quotient.inside (sym (well.entry_inside p in_range)) ∙ inside)) (λ outside. refl);
    step = λ x y edge at_x before unkilled. choose _ _ _ (λ inside.
        let inside_x : IsInside shape quotient x = ap quotient.inside (well.step_inside x y edge) ∙ inside in
        bound.preserved.step x y edge inside_x at_x (chosen_first _ _ _ inside_x before) unkilled) (λ outside. refl);
    call = λ site x p z call return at_x at_exit before through. choose _ _ _ (λ inside.
        let inside_x : IsInside shape quotient x = ap quotient.inside (well.site_inside site x _ _ z call.1 return) ∙ inside in
        bound.preserved.call site x p z call return inside_x at_x at_exit (chosen_first _ _ _ inside_x before) (exit_preserves p call.0 through))
        (λ outside. refl);
  }

  -- outside, what is generated before a call is so behind it
  same_outside : (x z : ℕ) → shape.procedure_of x ≡ shape.procedure_of z → IsOutside shape quotient z → Passes (generated_by shape quotient) x
      → (quotient.outside_generates && quotient.leads (shape.procedure_of z)) ≡ true
  same_outside x z same outside before =
      subst (λ r. (quotient.outside_generates && quotient.leads r) ≡ true) same
      (chosen_second _ _ _ (ap quotient.inside same ∙ outside) before)

  callee_outside : (site x procedure z : ℕ) → CallsAt shape site x procedure → ReturnsTo shape site procedure z → IsOutside shape quotient x
      → reached x → reached (shape.exit procedure) → Passes (callee_generates shape quotient) procedure
      → (quotient.outside_generates && quotient.leads (shape.procedure_of x)) ≡ true
  callee_outside site x p z call return outside at_x at_exit through = cases (quotient.inside p)
      (λ inside. and_from _ _
      (bound.generated.call_from_outside site x p z call return outside inside at_x at_exit (chosen_first _ _ _ inside through))
      (bound.leads.to_inside site x p call inside))
      (λ outside_p.
      let (generates, leads) = and_parts quotient.outside_generates (quotient.leads p) (chosen_second _ _ _ outside_p through) in
      and_from _ _ generates (bound.leads.by_callee site x p call leads))

  pub generated_closed : IsClosedGenerated shape transfer reached (Passes (preserved_by shape quotient)) (Passes (generated_by shape quotient))
  generated_closed = record {
    by_step = λ x y edge at_x gens. choose _ _ _
        (λ inside. bound.generated.by_step x y edge (ap quotient.inside (well.step_inside x y edge) ∙ inside) at_x gens)
        (λ outside.
        let none = bound.generated.step_outside x y edge (ap quotient.inside (well.step_inside x y edge) ∙ outside) in
        absurd (cc (none, gens)));
    before_step = λ x y edge at_x before unkilled.
        let same = well.step_inside x y edge in
        choose _ _ _ (λ inside.
        let inside_x : IsInside shape quotient x = ap quotient.inside same ∙ inside in
        bound.generated.before_step x y edge inside_x at_x (chosen_first _ _ _ inside_x before) unkilled)
        (λ outside. same_outside x y same outside before);
    by_callee = λ site x p z call return at_x at_exit through.
        let same = well.site_inside site x _ _ z call.1 return in
        let effect = exit_generates p call.0 through in
        choose _ _ _ (λ inside. bound.generated.by_callee site x p z call return (ap quotient.inside same ∙ inside) at_x at_exit effect)
        (λ outside. subst (λ r. (quotient.outside_generates && quotient.leads r) ≡ true) same
        (callee_outside site x p z call return (ap quotient.inside same ∙ outside) at_x at_exit effect));
    before_call = λ site x p z call return at_x at_exit before through.
        let same = well.site_inside site x _ _ z call.1 return in
        choose _ _ _ (λ inside.
        let inside_x : IsInside shape quotient x = ap quotient.inside same ∙ inside in
        bound.generated.before_call site x p z call return inside_x at_x at_exit (chosen_first _ _ _ inside_x before)
        (exit_preserves p call.0 through))
        (λ outside. same_outside x z same outside before);
  }

  -- where the bit is brought to those outside, a call from outside brings it on
  brought_from_outside : (site x procedure : ℕ) → CallsAt shape site x procedure → IsOutside shape quotient x → entered (shape.procedure_of x)
      → reached x → quotient.outside_brought ≡ true → Passes (brought_by quotient) procedure
  brought_from_outside site x p call outside at_caller at_x brought = choose _ _ _
      (λ inside. bound.brought.call_from_outside site x p call outside inside at_caller at_x brought)
      (λ outside_p. or_right (not (quotient.leads p)) _ brought)

  -- a call of a procedure that leads nowhere inside brings nothing that counts
  brought_on : (site x procedure : ℕ) → CallsAt shape site x procedure → IsOutside shape quotient x → entered (shape.procedure_of x)
      → reached x → Passes (brought_by quotient) (shape.procedure_of x) → Passes (brought_by quotient) procedure
  brought_on site x p call outside at_caller at_x before =
      cases (quotient.leads (shape.procedure_of x)) (λ leads. brought_from_outside site x p call outside at_caller at_x (chosen leads))
      (λ none. choose _ _ _
      (λ inside. let leads = bound.leads.to_inside site x p call inside in absurd (cc (leads, none)))
      (λ outside_p. cases (quotient.leads p)
      (λ further. let leads = bound.leads.by_callee site x p call further in absurd (cc (leads, none)))
      (λ no_further. or_left (not (quotient.leads p)) _ (ap not no_further))))
    where
      chosen : quotient.leads (shape.procedure_of x) ≡ true → quotient.outside_brought ≡ true
      chosen leads = last (quotient.leads (shape.procedure_of x)) leads (chosen_second _ _ _ outside before)
        where
          last : (test : Bool) → test ≡ true → (not test || quotient.outside_brought) ≡ true → quotient.outside_brought ≡ true
          last true is passes = passes
          last false is passes = absurd (cc is)

  pub brought_closed : IsClosedBrought shape transfer reached (Passes (preserved_by shape quotient)) (Passes (generated_by shape quotient)) entered
      (Passes (brought_by quotient))
  brought_closed = record {
    boundary = bound.brought.boundary;
    where_generated = λ site x p call at_caller at_x generated. cases (quotient.inside (shape.procedure_of x))
        (λ inside. bound.brought.where_generated site x p call inside at_caller at_x (chosen_first _ _ _ inside generated))
        (λ outside. brought_from_outside site x p call outside at_caller at_x
        (bound.brought.outside (and_parts quotient.outside_generates _ (chosen_second _ _ _ outside generated)).0));
    where_preserved = λ site x p call at_caller at_x before preserved. cases (quotient.inside (shape.procedure_of x))
        (λ inside. bound.brought.where_preserved site x p call inside at_caller at_x (chosen_first _ _ _ inside before)
        (chosen_first _ _ _ inside preserved))
        (λ outside. brought_on site x p call outside at_caller at_x before);
  }

pub quotients_are_closed : QuotientsAreClosed
quotients_are_closed shape transfer reached entered quotient well bound = (
  preserved_closed shape transfer (Passes reached) (Passes entered) quotient well bound,
  generated_closed shape transfer (Passes reached) (Passes entered) quotient well bound,
  brought_closed shape transfer (Passes reached) (Passes entered) quotient well bound,
)

pub quotients_are_above : QuotientsAreAbove
quotients_are_above shape transfer reached entered quotient well reached_closed entered_closed bound =
    closed_values_are_above shape transfer (values_of shape reached entered quotient) (record {
      reached = reached_closed;
      preserved = preserved_closed shape transfer (Passes reached) (Passes entered) quotient well bound;
      generated = generated_closed shape transfer (Passes reached) (Passes entered) quotient well bound;
      entered = entered_closed;
      brought = brought_closed shape transfer (Passes reached) (Passes entered) quotient well bound;
    })

pub quotients_bound_points : QuotientsBoundPoints
quotients_bound_points shape transfer quotient point well bound inside member = go member.1
  where
    all_reached : IsClosedReached shape (Reached shape)
    all_reached = record { entry = entry_is_reached; step = reached_by_step; call = reached_by_call }

    all_entered : IsClosedEntered shape (Reached shape) (Entered shape)
    all_entered = record { root = root_is_entered; call = entered_by_call }

    all_preserved : IsClosedPreserved shape transfer.kill (Reached shape) (Passes (preserved_by shape quotient))
    all_preserved = preserved_closed shape transfer (Reached shape) (Entered shape) quotient well bound

    all_generated : IsClosedGenerated shape transfer (Reached shape) (Passes (preserved_by shape quotient)) (Passes (generated_by shape quotient))
    all_generated = generated_closed shape transfer (Reached shape) (Entered shape) quotient well bound

    go : Generated shape transfer point ⊎ (Brought shape transfer (shape.procedure_of point) × Preserved shape transfer.kill point)
        → (quotient.generated point || (quotient.brought (shape.procedure_of point) && quotient.preserved point)) ≡ true
    go (inl generated) = or_left (quotient.generated point) _
        (chosen_first _ _ _ inside (generated_least {generated = Passes (generated_by shape quotient)} all_reached all_preserved all_generated generated))
    go (inr both) = or_right (quotient.generated point) _ (and_from _ _
        (chosen_first _ _ _ inside (brought_least {brought = Passes (brought_by quotient)} all_reached all_preserved all_generated all_entered
        (brought_closed shape transfer (Reached shape) (Entered shape) quotient well bound) both.0))
        (chosen_first _ _ _ inside (preserved_least {preserved = Passes (preserved_by shape quotient)} all_reached all_preserved both.1)))
