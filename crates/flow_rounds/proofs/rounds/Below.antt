-- What rounds find the table has: the union of steps from sets within the least solution lies within it
use Rattle.std.proofs.Common.{◌≡◌, ℕ, zero, suc, Bool, true, false, not, ◌&&◌, ◌||◌, List, [], ◌∷◌, refl, sym, subst, if◌then◌else◌, nat_eq}
use Rattle.std.proofs.Common.{inl, inr, ◌↔◌, eqb-true}
use Rattle.flow_graph.specs.Paths.{IsEdge, Shape, Transfer, value_across}
use Rattle.flow_graph.specs.WellFormed.{IsWellFormed}
use Rattle.flow_graph.specs.declared.edge.Edge.TheVariants.{Step}
use Rattle.summary_equations.specs.Equations.{Brought, HasFlag, IsInSolution, generated_before_step, generated_by_step}
use Rattle.summary_equations.specs.Equations.{preserved_by_step, reached_by_step, Entered}
use Rattle.flow_rounds.specs.Rounds.{BitProblem, after_round, after_rounds, at_first, is_computed, joined, with_point}
use Rattle.flow_rounds.proofs.rounds.Joins.{IsBrought, joined_by}

-- What a union of steps has to know: which points are inside, that steps stay there, and what is known of them.
pub record Knows (problem : BitProblem) (procedure : ℕ) (inside : ℕ → Type 0) : Type 0 where
  pub may : problem.is_must ≡ false
  pub formed : IsWellFormed problem.shape
  pub of_procedure : (point : ℕ) → inside point → problem.shape.procedure_of point ≡ procedure
  pub back : (source point : ℕ) → IsEdge problem.shape (Step source point) → inside point → inside source
  pub flags : (point : ℕ) → inside point → (problem.has_path point ≡ true) ↔ HasFlag problem.shape point
  pub table : (point : ℕ) → inside point → (problem.in_table point ≡ true) ↔ IsInSolution problem.shape problem.transfer point

-- what a step brings from a set within the solution
pub step_within : (shape : Shape) (transfer : Transfer) (x y : ℕ) (value : Bool) → IsWellFormed shape → IsEdge shape (Step x y) → HasFlag shape x
    → (value ≡ true → IsInSolution shape transfer x) → value_across transfer (Step x y) value ≡ true → IsInSolution shape transfer y
step_within shape transfer x y value formed edge (entered, reached) within is = by_bits (transfer.gen x y) (transfer.kill x y) value refl
    refl within is
  where
    same : shape.procedure_of x ≡ shape.procedure_of y
    same = formed.step_inside x y edge

    flag : HasFlag shape y
    flag = (subst (Entered shape) same entered, reached_by_step x y edge reached)

    keep : transfer.kill x y ≡ false → IsInSolution shape transfer x → IsInSolution shape transfer y
    keep unkilled (at_x, inl generated) = (flag, inl (generated_before_step x y edge reached generated unkilled))
    keep unkilled (at_x, inr (brought, preserved)) =
        (flag, inr (subst (Brought shape transfer) same brought, preserved_by_step x y edge reached preserved unkilled))

    by_bits : (gen kill value : Bool) → transfer.gen x y ≡ gen → transfer.kill x y ≡ kill → (value ≡ true → IsInSolution shape transfer x)
        → (gen || (value && not kill)) ≡ true → IsInSolution shape transfer y
    by_bits true kill value gens kills within is = (flag, inl (generated_by_step x y edge reached gens))
    by_bits false true true gens kills within is = absurd (cc is)
    by_bits false false true gens kills within is = keep kills (within refl)
    by_bits false kill false gens kills within is = absurd (cc is)

module _ (problem : BitProblem) (procedure : ℕ) (inside : ℕ → Type 0) (knows : Knows problem procedure inside) where
  -- the set lies within the solution
  abbrev pub IsBelow : (ℕ → Bool) → Type 0
  IsBelow set = (point : ℕ) → inside point → set point ≡ true → IsInSolution problem.shape problem.transfer point

  joined_below : (set : ℕ → Bool) → IsBelow set → (point : ℕ) → inside point → joined problem set point ≡ true
      → IsInSolution problem.shape problem.transfer point
  joined_below set below point within is =
      let brought : IsBrought problem set point = joined_by problem knows.may set point is in
      let before : inside brought.source = knows.back brought.source point brought.is_edge within in
      step_within problem.shape problem.transfer brought.source point (set brought.source) knows.formed brought.is_edge
      ((knows.flags brought.source before).0 brought.has_path) (below brought.source before) brought.brings

  point_below : (set : ℕ → Bool) (point : ℕ) → IsBelow set → IsBelow (with_point problem set point)
  point_below set point below other within is = by_test (nat_eq other point) refl is
    where
      by_test : (b : Bool) → nat_eq other point ≡ b → (if b then joined problem set point else set other) ≡ true
          → IsInSolution problem.shape problem.transfer other
      by_test true here is =
          let same : other ≡ point = eqb-true other point here in
          joined_below set below other within (subst (λ p. joined problem set p ≡ true) (sym same) is)
      by_test false there is = below other within is

  round_below : (order : List ℕ) (set : ℕ → Bool) → IsBelow set → IsBelow (after_round problem order set)
  round_below [] set below = below
  round_below (point ∷ order) set below = round_below order (with_point problem set point) (point_below set point below)

  first_below : IsBelow (at_first problem procedure)
  first_below point within is = by_test (is_computed problem.shape procedure problem.has_path point) is
    where
      by_test : (b : Bool) → (if b then problem.is_must else problem.in_table point) ≡ true → IsInSolution problem.shape problem.transfer point
      by_test true is = absurd (cc (is, knows.may))
      by_test false is = (knows.table point within).0 is

  -- so do the sets after so many rounds
  pub rounds_below : (order : List ℕ) (rounds : ℕ) → IsBelow (after_rounds problem procedure order rounds)
  rounds_below order zero = first_below
  rounds_below order (suc rounds) = round_below order (after_rounds problem procedure order rounds) (rounds_below order rounds)
