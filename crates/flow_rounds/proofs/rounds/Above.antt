-- What the table has a set has that no round changes: each derivation of the bit leads there by steps, from what is known
use Rattle.std.proofs.Common.{◌≡◌, ℕ, Bool, true, false, not, ◌&&◌, ◌||◌, refl, sym, ap, subst, ◌∙◌, nat_eq, inl, inr, eq-eqb}
use Rattle.std.specs.List.{list_any}
use Rattle.flow_graph.specs.Paths.{IsEdge, Shape, Transfer, value_across}
use Rattle.flow_graph.specs.declared.edge.Edge.TheVariants.{Step, Ret}
use Rattle.flow_graph.proofs.searches.FiniteSearch.{contains_any}
use Rattle.summary_equations.specs.Equations.{Brought, Generated, HasFlag, IsInSolution, Preserved, Reached, Entered}
use Rattle.summary_equations.specs.Equations.{preserved_at_entry, preserved_by_step, preserved_by_call}
use Rattle.summary_equations.specs.Equations.{generated_by_step, generated_before_step, generated_by_callee, generated_before_call}
use Rattle.flow_rounds.specs.Rounds.{BitProblem, is_computed, is_return_to, joined}
use Rattle.flow_rounds.proofs.rounds.Below.{Knows}
use Rattle.flow_rounds.proofs.rounds.Joins.{joins}

-- a point to which a return leads is not computed, and neither is the entry
not_at_return : (shape : Shape) (procedure : ℕ) (has_path : ℕ → Bool) (site source point : ℕ) → IsEdge shape (Ret site source point)
    → is_computed shape procedure has_path point ≡ false
not_at_return shape procedure has_path site source point edge =
    ap (λ b. has_path point && not (nat_eq point (shape.entry procedure)) && not b)
    (contains_any (is_return_to point) shape.edges (Ret site source point) edge (eq-eqb point point refl))
    ∙ nothing (has_path point && not (nat_eq point (shape.entry procedure)))
  where
    nothing : (b : Bool) → (b && false) ≡ false
    nothing true = refl
    nothing false = refl

not_at_entry : (shape : Shape) (procedure : ℕ) (has_path : ℕ → Bool) (point : ℕ) → point ≡ shape.entry procedure
    → is_computed shape procedure has_path point ≡ false
not_at_entry shape procedure has_path point same =
    ap (λ b. has_path point && not b && not (list_any (is_return_to point) shape.edges)) (eq-eqb point (shape.entry procedure) same)
    ∙ nothing (has_path point)
  where
    nothing : (b : Bool) → ((b && false) && not (list_any (is_return_to point) shape.edges)) ≡ false
    nothing true = refl
    nothing false = refl

module _ (problem : BitProblem) (procedure : ℕ) (inside : ℕ → Type 0) (knows : Knows problem procedure inside) (set : ℕ → Bool)
    (stable : (point : ℕ) → inside point → is_computed problem.shape procedure problem.has_path point ≡ true → joined problem set point ≡ set point)
    (known : (point : ℕ) → inside point → is_computed problem.shape procedure problem.has_path point ≡ false → set point ≡ problem.in_table
    point) where
  abbrev shape : Shape
  shape = problem.shape

  abbrev transfer : Transfer
  transfer = problem.transfer

  where_known : (point : ℕ) → inside point → is_computed shape procedure problem.has_path point ≡ false → IsInSolution shape transfer point
      → set point ≡ true
  where_known point within none solved = known point within none ∙ (knows.table point within).1 solved

  -- behind a step that brings the bit
  by_step : (x y : ℕ) → inside y → IsEdge shape (Step x y) → HasFlag shape x → IsInSolution shape transfer y
      → value_across transfer (Step x y) (set x) ≡ true → set y ≡ true
  by_step x y within edge flag solved brings = by_test (is_computed shape procedure problem.has_path y) refl
    where
      by_test : (b : Bool) → is_computed shape procedure problem.has_path y ≡ b → set y ≡ true
      by_test true is =
          sym (stable y within is)
          ∙ joins problem knows.may set y
          record { source = x; is_edge = edge; has_path = (knows.flags x (knows.back x y edge within)).1 flag; brings = brings }
      by_test false none = where_known y within none solved

  gen_brings : (x y : ℕ) (value : Bool) → transfer.gen x y ≡ true → value_across transfer (Step x y) value ≡ true
  gen_brings x y value gens = ap (λ b. b || (value && not (transfer.kill x y))) gens

  kept_brings : (x y : ℕ) → set x ≡ true → transfer.kill x y ≡ false → value_across transfer (Step x y) (set x) ≡ true
  kept_brings x y has unkilled = (λ i. transfer.gen x y || (has i && not (unkilled i))) ∙ always (transfer.gen x y)
    where
      always : (b : Bool) → (b || true) ≡ true
      always true = refl
      always false = refl

  -- the procedure of a step's beginning is entered where that of its end is
  entered_before : (x y : ℕ) → IsEdge shape (Step x y) → Entered shape (shape.procedure_of y) → Entered shape (shape.procedure_of x)
  entered_before x y edge entered = subst (Entered shape) (sym (knows.formed.step_inside x y edge)) entered

  gen_above : (x : ℕ) → Generated shape transfer x → inside x → Entered shape (shape.procedure_of x) → Reached shape x → set x ≡ true
  gen_above _ (generated_by_step x y edge at_x gens) within entered reached =
      by_step x y within edge (entered_before x y edge entered, at_x) ((entered, reached), inl (generated_by_step x y edge at_x gens))
      (gen_brings x y (set x) gens)
  gen_above _ (generated_before_step x y edge at_x before unkilled) within entered reached =
      let has = gen_above x before (knows.back x y edge within) (entered_before x y edge entered) at_x in
      by_step x y within edge (entered_before x y edge entered, at_x)
      ((entered, reached), inl (generated_before_step x y edge at_x before unkilled)) (kept_brings x y has unkilled)
  gen_above _ (generated_by_callee site x p z call return at_x at_exit through) within entered reached =
      where_known z within (not_at_return shape procedure problem.has_path site (shape.exit p) z return)
      ((entered, reached), inl (generated_by_callee site x p z call return at_x at_exit through))
  gen_above _ (generated_before_call site x p z call return at_x at_exit before through) within entered reached =
      where_known z within (not_at_return shape procedure problem.has_path site (shape.exit p) z return)
      ((entered, reached), inl (generated_before_call site x p z call return at_x at_exit before through))

  brought_before : (x y : ℕ) → IsEdge shape (Step x y) → Brought shape transfer (shape.procedure_of y) → Brought shape transfer
      (shape.procedure_of x)
  brought_before x y edge brought = subst (Brought shape transfer) (sym (knows.formed.step_inside x y edge)) brought

  pre_above : (x : ℕ) → Preserved shape transfer.kill x → Brought shape transfer (shape.procedure_of x) → inside x
      → Entered shape (shape.procedure_of x) → Reached shape x → set x ≡ true
  pre_above _ (preserved_at_entry p in_range) brought within entered reached =
      let same : p ≡ procedure = sym (knows.formed.entry_inside p in_range) ∙ knows.of_procedure (shape.entry p) within in
      where_known (shape.entry p) within (not_at_entry shape procedure problem.has_path (shape.entry p) (ap shape.entry same))
      ((entered, reached), inr (brought, preserved_at_entry p in_range))
  pre_above _ (preserved_by_step x y edge at_x before unkilled) brought within entered reached =
      let has = pre_above x before (brought_before x y edge brought) (knows.back x y edge within) (entered_before x y edge entered) at_x in
      by_step x y within edge (entered_before x y edge entered, at_x)
      ((entered, reached), inr (brought, preserved_by_step x y edge at_x before unkilled)) (kept_brings x y has unkilled)
  pre_above _ (preserved_by_call site x p z call return at_x at_exit before through) brought within entered reached =
      where_known z within (not_at_return shape procedure problem.has_path site (shape.exit p) z return)
      ((entered, reached), inr (brought, preserved_by_call site x p z call return at_x at_exit before through))

  -- the set has all of the solution
  pub all_above : (point : ℕ) → inside point → IsInSolution shape transfer point → set point ≡ true
  all_above point within ((entered, reached), inl generated) = gen_above point generated within entered reached
  all_above point within ((entered, reached), inr (brought, preserved)) = pre_above point preserved brought within entered reached
