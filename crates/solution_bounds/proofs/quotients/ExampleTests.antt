-- Tests by which the worked examples compute: quotients that meet their conditions
use Rattle.std.proofs.Common.{◌≡◌, ℕ, Bool, true, false, not, ◌&&◌, ◌||◌, nat_eq, refl, ap}
use Rattle.std.specs.List.{list_all}
use Rattle.std.proofs.lemmas.Bool.{and_from, and_parts, or_left, or_right, not-true}
use Rattle.flow_graph.specs.declared.edge.Edge.TheVariants.{Step, Call, Ret}
use Rattle.flow_graph.specs.Paths.{Shape, Transfer, IsEdge}
use Rattle.flow_graph.specs.WellFormed.{IsWellFormed}
use Rattle.flow_graph.proofs.graphs.ExampleLemmas.{edges_pass, all_below, below}
use Rattle.flow_graph.proofs.paths.PathLemmas.{nat_eq_same}
use Rattle.summary_equations.specs.Equations.{CallsAt, ReturnsTo}
use Rattle.summary_equations.specs.Laws.{Passes}
use Rattle.summary_equations.proofs.solutions.ExampleLemmas.{implies, step_passes, call_passes, return_passes, through_passes, steps_pass, calls_pass}
use Rattle.summary_equations.proofs.solutions.ExampleLemmas.{throughs_pass}
use Rattle.solution_bounds.specs.Bounds.{IsUpperBound}
use Rattle.solution_bounds.specs.Quotients.{Quotient, values_of, brought_by, callee_preserves, callee_generates, LeadsInside, IsPreservedBound}
use Rattle.solution_bounds.specs.Quotients.{IsGeneratedBound, IsBroughtBound}
use Rattle.solution_bounds.proofs.quotients.Quotients.{quotients_are_above}

apply : (a b : Bool) → implies a b ≡ true → a ≡ true → b ≡ true
apply true b holds is_true = holds
apply false b holds is_true = absurd (cc is_true)

module _ (shape : Shape) where
  at_step : (test : ℕ → ℕ → Bool) → steps_pass shape test ≡ true → (x y : ℕ) → IsEdge shape (Step x y) → test x y ≡ true
  at_step test all x y edge = edges_pass shape (step_passes test) all (Step x y) edge

  at_call : (test : ℕ → ℕ → Bool) → calls_pass shape test ≡ true → (site x procedure : ℕ) → CallsAt shape site x procedure → test procedure x ≡ true
  at_call test all site x p call =
      let each = below shape.procedures (λ q. list_all (call_passes (shape.entry q) (test q)) shape.edges) all p call.0 in
      apply (nat_eq (shape.entry p) (shape.entry p)) (test p x)
      (edges_pass shape (call_passes (shape.entry p) (test p)) each (Call site x (shape.entry p)) call.1) (nat_eq_same _)

  at_through : (test : ℕ → ℕ → ℕ → Bool) → throughs_pass shape test ≡ true → (site x procedure z : ℕ) → CallsAt shape site x procedure
      → ReturnsTo shape site procedure z → test procedure x z ≡ true
  at_through test all site x p z call return =
      let each = below shape.procedures (λ q. list_all (through_passes shape q (test q)) shape.edges) all p call.0 in
      let returns = apply (nat_eq (shape.entry p) (shape.entry p)) (list_all (return_passes (shape.exit p) site (test p x)) shape.edges)
      (edges_pass shape (through_passes shape p (test p)) each (Call site x (shape.entry p)) call.1) (nat_eq_same _) in
      apply (nat_eq site site && nat_eq (shape.exit p) (shape.exit p)) (test p x z)
      (edges_pass shape (return_passes (shape.exit p) site (test p x)) returns (Ret site (shape.exit p) z) return)
      (and_from _ _ (nat_eq_same site) (nat_eq_same (shape.exit p)))

abbrev pub inside_at : Shape → Quotient → ℕ → Bool
inside_at shape quotient x = quotient.inside (shape.procedure_of x)

abbrev pub leads_inside : Shape → Quotient → Bool
leads_inside shape quotient = calls_pass shape (λ p x. implies (quotient.inside p || quotient.leads p) (quotient.leads (shape.procedure_of x)))

leads_bound : (shape : Shape) (quotient : Quotient) → leads_inside shape quotient ≡ true → LeadsInside shape quotient
leads_bound shape quotient passes =
    let at = at_call shape (λ p x. implies (quotient.inside p || quotient.leads p) (quotient.leads (shape.procedure_of x))) passes in
    record {
      to_inside = λ site x p call inside. apply _ _ (at site x p call) (or_left (quotient.inside p) _ inside);
      by_callee = λ site x p call leads. apply _ _ (at site x p call) (or_right (quotient.inside p) _ leads);
    }

abbrev pub preserved_inside : Shape → Transfer → Quotient → Bool
preserved_inside shape transfer quotient =
    all_below shape.procedures (λ p. implies (quotient.inside p) (quotient.preserved (shape.entry p)))
    && (steps_pass shape (λ x y. implies (inside_at shape quotient x && (quotient.preserved x && not (transfer.kill x y))) (quotient.preserved y))
    && throughs_pass shape
    (λ p x z. implies (inside_at shape quotient x && (quotient.preserved x && callee_preserves shape quotient p)) (quotient.preserved z)))

preserved_bound : (shape : Shape) (transfer : Transfer) (quotient : Quotient) → preserved_inside shape transfer quotient ≡ true
    → IsPreservedBound shape transfer.kill (Passes (λ x. true)) quotient
preserved_bound shape transfer quotient passes =
    let (entries, rest) = and_parts (all_below shape.procedures (λ p. implies (quotient.inside p) (quotient.preserved (shape.entry p)))) _ passes in
    let (steps, throughs) =
    and_parts (steps_pass shape (λ x y. implies (inside_at shape quotient x && (quotient.preserved x && not (transfer.kill x y))) (quotient.preserved y))) _
    rest in
    record {
      entry = λ p in_range inside.
          apply _ _ (below shape.procedures (λ p. implies (quotient.inside p) (quotient.preserved (shape.entry p))) entries p in_range) inside;
      step = λ x y edge inside at_x before unkilled.
          apply _ _
          (at_step shape (λ x y. implies (inside_at shape quotient x && (quotient.preserved x && not (transfer.kill x y))) (quotient.preserved y)) steps x y edge)
          (and_from _ _ inside (and_from _ _ before (ap not unkilled)));
      call = λ site x p z call return inside at_x at_exit before through.
          apply _ _
          (at_through shape
          (λ p x z. implies (inside_at shape quotient x && (quotient.preserved x && callee_preserves shape quotient p)) (quotient.preserved z)) throughs
          site x p z call return) (and_from _ _ inside (and_from _ _ before through));
    }

-- the tests of what is generated, one for each clause
abbrev generated_by_step_test : Shape → Transfer → Quotient → ℕ → ℕ → Bool
generated_by_step_test shape transfer quotient x y = implies (inside_at shape quotient x && transfer.gen x y) (quotient.generated y)

abbrev generated_before_step_test : Shape → Transfer → Quotient → ℕ → ℕ → Bool
generated_before_step_test shape transfer quotient x y =
    implies (inside_at shape quotient x && (quotient.generated x && not (transfer.kill x y))) (quotient.generated y)

abbrev generated_by_callee_test : Shape → Quotient → ℕ → ℕ → ℕ → Bool
generated_by_callee_test shape quotient p x z = implies (inside_at shape quotient x && callee_generates shape quotient p) (quotient.generated z)

abbrev generated_before_call_test : Shape → Quotient → ℕ → ℕ → ℕ → Bool
generated_before_call_test shape quotient p x z =
    implies (inside_at shape quotient x && (quotient.generated x && callee_preserves shape quotient p)) (quotient.generated z)

abbrev step_outside_test : Shape → Transfer → Quotient → ℕ → ℕ → Bool
step_outside_test shape transfer quotient x y = implies (not (inside_at shape quotient x)) (not (transfer.gen x y))

abbrev generated_from_outside_test : Shape → Quotient → ℕ → ℕ → ℕ → Bool
generated_from_outside_test shape quotient p x z =
    implies (not (inside_at shape quotient x) && (quotient.inside p && quotient.generated (shape.exit p))) quotient.outside_generates

abbrev pub generated_inside : Shape → Transfer → Quotient → Bool
generated_inside shape transfer quotient =
    (steps_pass shape (generated_by_step_test shape transfer quotient) && steps_pass shape (generated_before_step_test shape transfer quotient))
    && ((throughs_pass shape (generated_by_callee_test shape quotient) && throughs_pass shape (generated_before_call_test shape quotient))
    && (steps_pass shape (step_outside_test shape transfer quotient) && throughs_pass shape (generated_from_outside_test shape quotient)))

generated_bound : (shape : Shape) (transfer : Transfer) (quotient : Quotient) → generated_inside shape transfer quotient ≡ true
    → IsGeneratedBound shape transfer (Passes (λ x. true)) quotient
generated_bound shape transfer quotient passes =
    let (steps, rest) = and_parts (steps_pass shape (generated_by_step_test shape transfer quotient)
    && steps_pass shape (generated_before_step_test shape transfer quotient)) _ passes in
    let (throughs, outside) = and_parts (throughs_pass shape (generated_by_callee_test shape quotient)
    && throughs_pass shape (generated_before_call_test shape quotient)) _ rest in
    let (by, before) = and_parts (steps_pass shape (generated_by_step_test shape transfer quotient)) _ steps in
    let (callees, calls) = and_parts (throughs_pass shape (generated_by_callee_test shape quotient)) _ throughs in
    let (none, from) = and_parts (steps_pass shape (step_outside_test shape transfer quotient)) _ outside in
    record {
      by_step = λ x y edge inside at_x gens.
          apply _ _ (at_step shape (generated_by_step_test shape transfer quotient) by x y edge) (and_from _ _ inside gens);
      before_step = λ x y edge inside at_x has unkilled.
          apply _ _ (at_step shape (generated_before_step_test shape transfer quotient) before x y edge)
          (and_from _ _ inside (and_from _ _ has (ap not unkilled)));
      by_callee = λ site x p z call return inside at_x at_exit through.
          apply _ _ (at_through shape (generated_by_callee_test shape quotient) callees site x p z call return) (and_from _ _ inside through);
      before_call = λ site x p z call return inside at_x at_exit has through.
          apply _ _ (at_through shape (generated_before_call_test shape quotient) calls site x p z call return)
          (and_from _ _ inside (and_from _ _ has through));
      step_outside = λ x y edge outside.
          not-true (transfer.gen x y) (apply _ _ (at_step shape (step_outside_test shape transfer quotient) none x y edge) (ap not outside));
      call_from_outside = λ site x p z call return outside inside at_x at_exit has.
          apply _ _ (at_through shape (generated_from_outside_test shape quotient) from site x p z call return)
          (and_from _ _ (ap not outside) (and_from _ _ inside has));
    }

abbrev brought_where_generated_test : Shape → Quotient → ℕ → ℕ → Bool
brought_where_generated_test shape quotient p x = implies (inside_at shape quotient x && quotient.generated x) (brought_by quotient p)

abbrev brought_where_preserved_test : Shape → Quotient → ℕ → ℕ → Bool
brought_where_preserved_test shape quotient p x =
    implies (inside_at shape quotient x && (quotient.brought (shape.procedure_of x) && quotient.preserved x)) (brought_by quotient p)

abbrev brought_from_outside_test : Shape → Quotient → ℕ → ℕ → Bool
brought_from_outside_test shape quotient p x =
    implies (not (inside_at shape quotient x) && (quotient.inside p && quotient.outside_brought)) (quotient.brought p)

abbrev pub brought_inside : Shape → Transfer → Quotient → Bool
brought_inside shape transfer quotient =
    (implies transfer.boundary (brought_by quotient shape.root_procedure) && implies quotient.outside_generates quotient.outside_brought)
    && (calls_pass shape (brought_where_generated_test shape quotient)
    && (calls_pass shape (brought_where_preserved_test shape quotient) && calls_pass shape (brought_from_outside_test shape quotient)))

brought_bound : (shape : Shape) (transfer : Transfer) (quotient : Quotient) → brought_inside shape transfer quotient ≡ true
    → IsBroughtBound shape transfer (Passes (λ x. true)) (Passes (λ p. true)) quotient
brought_bound shape transfer quotient passes =
    let (first, rest) = and_parts (implies transfer.boundary (brought_by quotient shape.root_procedure)
    && implies quotient.outside_generates quotient.outside_brought) _ passes in
    let (boundary, outside) = and_parts (implies transfer.boundary (brought_by quotient shape.root_procedure)) _ first in
    let (generated, rest) = and_parts (calls_pass shape (brought_where_generated_test shape quotient)) _ rest in
    let (preserved, from) = and_parts (calls_pass shape (brought_where_preserved_test shape quotient)) _ rest in
    record {
      boundary = λ has. apply _ _ boundary has;
      where_generated = λ site x p call inside at_caller at_x has.
          apply _ _ (at_call shape (brought_where_generated_test shape quotient) generated site x p call) (and_from _ _ inside has);
      where_preserved = λ site x p call inside at_caller at_x has keeps.
          apply _ _ (at_call shape (brought_where_preserved_test shape quotient) preserved site x p call)
          (and_from _ _ inside (and_from _ _ has keeps));
      outside = λ generates. apply _ _ outside generates;
      call_from_outside = λ site x p call is_outside inside at_caller at_x has.
          apply _ _ (at_call shape (brought_from_outside_test shape quotient) from site x p call)
          (and_from _ _ (ap not is_outside) (and_from _ _ inside has));
    }

abbrev pub passes_quotient : Shape → Transfer → Quotient → Bool
passes_quotient shape transfer quotient =
    leads_inside shape quotient
    && (preserved_inside shape transfer quotient && (generated_inside shape transfer quotient && brought_inside shape transfer quotient))

-- a quotient that passes the tests is a bound from above, all points being taken to be reached
pub quotient_above : (shape : Shape) (transfer : Transfer) (quotient : Quotient) → IsWellFormed shape → passes_quotient shape transfer quotient ≡ true
    → IsUpperBound shape transfer (values_of shape (λ x. true) (λ p. true) quotient)
quotient_above shape transfer quotient well passes =
    let (leads, rest) = and_parts (leads_inside shape quotient) _ passes in
    let (preserved, rest) = and_parts (preserved_inside shape transfer quotient) _ rest in
    let (generated, brought) = and_parts (generated_inside shape transfer quotient) _ rest in
    quotients_are_above shape transfer (λ x. true) (λ p. true) quotient well
    (record { entry = λ p in_range. refl; step = λ x y edge at_x. refl; call = λ site x p z call return at_x at_exit. refl })
    (record { root = refl; call = λ site x p call at_caller at_x. refl }) (record {
      leads = leads_bound shape quotient leads;
      preserved = preserved_bound shape transfer quotient preserved;
      generated = generated_bound shape transfer quotient generated;
      brought = brought_bound shape transfer quotient brought;
    })
