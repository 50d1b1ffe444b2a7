-- What the union of the steps to a point brings
use Rattle.std.proofs.Common.{◌≡◌, ℕ, Bool, true, false, not, ◌&&◌, ◌||◌, refl, sym, ap, subst, ◌∙◌, if◌then◌else◌, nat_eq}
use Rattle.std.specs.List.{list_all, list_any}
use Rattle.std.proofs.Common.{eq-eqb, eqb-true}
use Rattle.std.proofs.lemmas.Bool.{and_parts}
use Rattle.flow_graph.specs.Paths.{IsEdge, value_across}
use Rattle.flow_graph.specs.declared.edge.Edge.{Edge}
use Rattle.flow_graph.specs.declared.edge.Edge.TheVariants.{Step, Call, Ret}
use Rattle.flow_graph.proofs.searches.FiniteSearch.{any_contains, contains_any}
use Rattle.flow_rounds.specs.Rounds.{BitProblem, bit_behind, is_step_to, joined}

-- a step from a point that has a valid path, which brings the bit
pub record IsBrought (problem : BitProblem) (set : ℕ → Bool) (point : ℕ) : Type 0 where
  pub source : ℕ
  pub is_edge : IsEdge problem.shape (Step source point)
  pub has_path : problem.has_path source ≡ true
  pub brings : value_across problem.transfer (Step source point) (set source) ≡ true

module _ (problem : BitProblem) (may : problem.is_must ≡ false) (set : ℕ → Bool) (point : ℕ) where
  abbrev test : Edge → Bool
  test = λ edge. is_step_to problem.has_path point edge && bit_behind problem.transfer set edge

  joined_any : joined problem set point ≡ list_any test problem.shape.edges
  joined_any =
      ap (λ (b : Bool). if b then list_all (λ edge. not (is_step_to problem.has_path point edge) || bit_behind problem.transfer set edge)
      problem.shape.edges
      else list_any (λ edge. is_step_to problem.has_path point edge && bit_behind problem.transfer set edge) problem.shape.edges) may

  pub joins : IsBrought problem set point → joined problem set point ≡ true
  joins brought =
      joined_any ∙ contains_any (λ edge. is_step_to problem.has_path point edge && bit_behind problem.transfer set edge) problem.shape.edges
      (Step brought.source point) brought.is_edge
      (λ i. ((eq-eqb point point refl i) && (brought.has_path i)) && brought.brings i)

  by_edge : (edge : Edge) → IsEdge problem.shape edge → (is_step_to problem.has_path point edge && bit_behind problem.transfer set edge) ≡ true
      → IsBrought problem set point
  by_edge (Step source target) edge passes =
      let (is_step, brings) = and_parts (nat_eq target point && problem.has_path source) _ passes in
      let (here, has) = and_parts (nat_eq target point) (problem.has_path source) is_step in
      let same : target ≡ point = eqb-true target point here in
      record {
        source = source;
        is_edge = subst (λ t. IsEdge problem.shape (Step source t)) same edge;
        has_path = has;
        brings = subst (λ t. value_across problem.transfer (Step source t) (set source) ≡ true) same brings;
      }
  by_edge (Call site source target) edge passes = absurd (cc passes)
  by_edge (Ret site source target) edge passes = absurd (cc passes)

  pub joined_by : joined problem set point ≡ true → IsBrought problem set point
  joined_by is =
      let (edge, among, passes) = any_contains (λ edge. is_step_to problem.has_path point edge && bit_behind problem.transfer set edge)
      problem.shape.edges (sym joined_any ∙ is) in
      by_edge edge among passes
