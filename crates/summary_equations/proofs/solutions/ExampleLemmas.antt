-- Tests by which the worked examples compute: families of points that are closed under the clauses
use Rattle.std.proofs.Common.{◌≡◌, ℕ, Bool, true, false, not, ◌&&◌, ◌||◌, nat_eq, ap, inl, inr, ◌⊎◌}
use Rattle.std.specs.List.{list_all}
use Rattle.std.proofs.lemmas.Bool.{and_from, and_parts}
use Rattle.flow_graph.specs.declared.edge.Edge.{Edge}
use Rattle.flow_graph.specs.declared.edge.Edge.TheVariants.{Step, Call, Ret}
use Rattle.flow_graph.specs.Paths.{Shape, Transfer, IsEdge}
use Rattle.flow_graph.proofs.graphs.ExampleLemmas.{edges_pass, all_below, below}
use Rattle.flow_graph.proofs.paths.PathLemmas.{nat_eq_same}
use Rattle.summary_equations.specs.Equations.{CallsAt, ReturnsTo, HasFlag, Generated, Brought, Preserved, IsInSolution, IsClosedReached, IsClosedPreserved}
use Rattle.summary_equations.specs.Equations.{IsClosedGenerated}
use Rattle.summary_equations.specs.Equations.{IsClosedEntered, IsClosedBrought}
use Rattle.summary_equations.specs.Laws.{Passes}
use Rattle.summary_equations.proofs.solutions.Least.{reached_least, generated_least, preserved_least, brought_least}

-- a test for each family
pub record Families : Type 0 where
  pub reached : ℕ → Bool
  pub preserved : ℕ → Bool
  pub generated : ℕ → Bool
  pub entered : ℕ → Bool
  pub brought : ℕ → Bool

abbrev pub implies : Bool → Bool → Bool
implies a b = not a || b

apply : (a b : Bool) → implies a b ≡ true → a ≡ true → b ≡ true
apply true b holds is_true = holds
apply false b holds is_true = absurd (cc is_true)

abbrev pub step_passes : (ℕ → ℕ → Bool) → Edge → Bool
step_passes test (Step x y) = test x y
step_passes test (Call site x y) = true
step_passes test (Ret site x y) = true

abbrev pub call_passes : ℕ → (ℕ → Bool) → Edge → Bool
call_passes entry test (Step x y) = true
call_passes entry test (Call site x y) = implies (nat_eq y entry) (test x)
call_passes entry test (Ret site x y) = true

abbrev pub return_passes : ℕ → ℕ → (ℕ → Bool) → Edge → Bool
return_passes exit site test (Step x y) = true
return_passes exit site test (Call other x y) = true
return_passes exit site test (Ret other x y) = implies (nat_eq other site && nat_eq x exit) (test y)

abbrev pub through_passes : Shape → ℕ → (ℕ → ℕ → Bool) → Edge → Bool
through_passes shape procedure test (Step x y) = true
through_passes shape procedure test (Call site x y) =
    implies (nat_eq y (shape.entry procedure)) (list_all (return_passes (shape.exit procedure) site (test x)) shape.edges)
through_passes shape procedure test (Ret site x y) = true

-- whether a test passes at each step; at each call, of its point and callee; at each call and its return, of their ends too
abbrev pub steps_pass : Shape → (ℕ → ℕ → Bool) → Bool
steps_pass shape test = list_all (step_passes test) shape.edges

abbrev pub calls_pass : Shape → (ℕ → ℕ → Bool) → Bool
calls_pass shape test = all_below shape.procedures (λ p. list_all (call_passes (shape.entry p) (test p)) shape.edges)

abbrev pub throughs_pass : Shape → (ℕ → ℕ → ℕ → Bool) → Bool
throughs_pass shape test = all_below shape.procedures (λ p. list_all (through_passes shape p (test p)) shape.edges)

module _ (shape : Shape) where
  at_step : (test : ℕ → ℕ → Bool) → steps_pass shape test ≡ true → (x y : ℕ) → IsEdge shape (Step x y) → test x y ≡ true
  at_step test all x y edge = edges_pass shape (step_passes test) all (Step x y) edge

  at_call : (test : ℕ → ℕ → Bool) → calls_pass shape test ≡ true → (site x procedure : ℕ) → CallsAt shape site x procedure → test procedure x ≡ true
  at_call test all site x p call =
      let each = below shape.procedures (λ q. list_all (call_passes (shape.entry q) (test q)) shape.edges) all p call.0 in
      apply (nat_eq (shape.entry p) (shape.entry p)) (test p x)
      (edges_pass shape (call_passes (shape.entry p) (test p)) each (Call site x (shape.entry p)) call.1) (nat_eq_same _)

  at_through : (test : ℕ → ℕ → ℕ → Bool) → throughs_pass shape test ≡ true → (site x procedure z : ℕ) → CallsAt shape site x procedure
      → ReturnsTo shape site procedure z → test procedure x z ≡ true
  at_through test all site x p z call return =
      let each = below shape.procedures (λ q. list_all (through_passes shape q (test q)) shape.edges) all p call.0 in
      let returns = apply (nat_eq (shape.entry p) (shape.entry p)) (list_all (return_passes (shape.exit p) site (test p x)) shape.edges)
      (edges_pass shape (through_passes shape p (test p)) each (Call site x (shape.entry p)) call.1) (nat_eq_same _) in
      apply (nat_eq site site && nat_eq (shape.exit p) (shape.exit p)) (test p x z)
      (edges_pass shape (return_passes (shape.exit p) site (test p x)) returns (Ret site (shape.exit p) z) return)
      (and_from _ _ (nat_eq_same site) (nat_eq_same (shape.exit p)))

abbrev pub closed_reached : Shape → Families → Bool
closed_reached shape families =
    all_below shape.procedures (λ p. families.reached (shape.entry p))
    && (steps_pass shape (λ x y. implies (families.reached x) (families.reached y))
    && throughs_pass shape (λ p x z. implies (families.reached x && families.reached (shape.exit p)) (families.reached z)))

reached_closed : (shape : Shape) (families : Families) → closed_reached shape families ≡ true → IsClosedReached shape (Passes families.reached)
reached_closed shape families passes =
    let (entries, rest) = and_parts (all_below shape.procedures (λ p. families.reached (shape.entry p))) _ passes in
    let (steps, throughs) = and_parts (steps_pass shape (λ x y. implies (families.reached x) (families.reached y))) _ rest in
    record {
      entry = λ p in_range. below shape.procedures (λ q. families.reached (shape.entry q)) entries p in_range;
      step = λ x y edge at_x. apply _ _ (at_step shape (λ u v. implies (families.reached u) (families.reached v)) steps x y edge) at_x;
      call = λ site x p z call return at_x at_exit.
          apply _ _ (at_through shape (λ q u v. implies (families.reached u && families.reached (shape.exit q)) (families.reached v))
          throughs site x p z call return) (and_from _ _ at_x at_exit);
    }

pub no_flag : (shape : Shape) (families : Families) → closed_reached shape families ≡ true → (x : ℕ) → families.reached x ≡ false
    → ¬ (HasFlag shape x)
no_flag shape families passes x lacks flag =
    let has : families.reached x ≡ true = reached_least (reached_closed shape families passes) flag.1 in
    cc (has, lacks)

abbrev pub closed_preserved : Shape → Transfer → Families → Bool
closed_preserved shape transfer families =
    all_below shape.procedures (λ p. families.preserved (shape.entry p))
    && (steps_pass shape (λ x y. implies (families.preserved x && not (transfer.kill x y)) (families.preserved y))
    && throughs_pass shape (λ p x z. implies (families.preserved x && families.preserved (shape.exit p)) (families.preserved z)))

preserved_closed : (shape : Shape) (transfer : Transfer) (families : Families) → closed_preserved shape transfer families ≡ true
    → IsClosedPreserved shape transfer.kill (Passes families.reached) (Passes families.preserved)
preserved_closed shape transfer families passes =
    let (entries, rest) = and_parts (all_below shape.procedures (λ p. families.preserved (shape.entry p))) _ passes in
    let (steps, throughs) = and_parts (steps_pass shape (λ x y. implies (families.preserved x && not (transfer.kill x y)) (families.preserved y))) _ rest in
    record {
      entry = λ p in_range. below shape.procedures (λ q. families.preserved (shape.entry q)) entries p in_range;
      step = λ x y edge at_x preserved unkilled.
          apply _ _ (at_step shape (λ u v. implies (families.preserved u && not (transfer.kill u v)) (families.preserved v)) steps x y edge)
          (and_from _ _ preserved (ap not unkilled));
      call = λ site x p z call return at_x at_exit preserved through.
          apply _ _ (at_through shape (λ q u v. implies (families.preserved u && families.preserved (shape.exit q)) (families.preserved v))
          throughs site x p z call return) (and_from _ _ preserved through);
    }

abbrev pub closed_generated : Shape → Transfer → Families → Bool
closed_generated shape transfer families =
    (steps_pass shape (λ x y. implies (families.reached x && transfer.gen x y) (families.generated y))
    && steps_pass shape (λ x y. implies (families.generated x && not (transfer.kill x y)) (families.generated y)))
    && (throughs_pass shape (λ p x z. implies (families.reached x && families.generated (shape.exit p)) (families.generated z))
    && throughs_pass shape (λ p x z. implies (families.generated x && families.preserved (shape.exit p)) (families.generated z)))

generated_closed : (shape : Shape) (transfer : Transfer) (families : Families) → closed_generated shape transfer families ≡ true
    → IsClosedGenerated shape transfer (Passes families.reached) (Passes families.preserved) (Passes families.generated)
generated_closed shape transfer families passes =
    let (steps, throughs) = and_parts (steps_pass shape (λ x y. implies (families.reached x && transfer.gen x y) (families.generated y))
    && steps_pass shape (λ x y. implies (families.generated x && not (transfer.kill x y)) (families.generated y))) _ passes in
    let (by, before) = and_parts (steps_pass shape (λ x y. implies (families.reached x && transfer.gen x y) (families.generated y))) _ steps in
    let (callees, calls) =
    and_parts (throughs_pass shape (λ p x z. implies (families.reached x && families.generated (shape.exit p)) (families.generated z))) _ throughs in
    record {
      by_step = λ x y edge at_x gens.
          apply _ _ (at_step shape (λ u v. implies (families.reached u && transfer.gen u v) (families.generated v)) by x y edge) (and_from _ _ at_x gens);
      before_step = λ x y edge at_x generated unkilled.
          apply _ _ (at_step shape (λ u v. implies (families.generated u && not (transfer.kill u v)) (families.generated v)) before x y edge)
          (and_from _ _ generated (ap not unkilled));
      by_callee = λ site x p z call return at_x at_exit generated.
          apply _ _ (at_through shape (λ q u v. implies (families.reached u && families.generated (shape.exit q)) (families.generated v))
          callees site x p z call return) (and_from _ _ at_x generated);
      before_call = λ site x p z call return at_x at_exit generated preserved.
          apply _ _ (at_through shape (λ q u v. implies (families.generated u && families.preserved (shape.exit q)) (families.generated v))
          calls site x p z call return) (and_from _ _ generated preserved);
    }

abbrev pub closed_entered : Shape → Families → Bool
closed_entered shape families = families.entered shape.root_procedure
    && calls_pass shape (λ p x. implies (families.entered (shape.procedure_of x) && families.reached x) (families.entered p))

entered_closed : (shape : Shape) (families : Families) → closed_entered shape families ≡ true
    → IsClosedEntered shape (Passes families.reached) (Passes families.entered)
entered_closed shape families passes =
    let (root, calls) = and_parts (families.entered shape.root_procedure) _ passes in
    record {
      root = root;
      call = λ site x p call entered at_x.
          apply _ _ (at_call shape (λ q u. implies (families.entered (shape.procedure_of u) && families.reached u) (families.entered q))
          calls site x p call) (and_from _ _ entered at_x);
    }

abbrev pub closed_brought : Shape → Transfer → Families → Bool
closed_brought shape transfer families =
    implies transfer.boundary (families.brought shape.root_procedure)
    && (calls_pass shape (λ p x. implies (families.entered (shape.procedure_of x) && families.generated x) (families.brought p))
    && calls_pass shape (λ p x. implies (families.brought (shape.procedure_of x) && families.preserved x) (families.brought p)))

brought_closed : (shape : Shape) (transfer : Transfer) (families : Families) → closed_brought shape transfer families ≡ true
    → IsClosedBrought shape transfer (Passes families.reached) (Passes families.preserved) (Passes families.generated) (Passes families.entered)
    (Passes families.brought)
brought_closed shape transfer families passes =
    let (boundary, rest) = and_parts (implies transfer.boundary (families.brought shape.root_procedure)) _ passes in
    let (generated, preserved) =
    and_parts (calls_pass shape (λ p x. implies (families.entered (shape.procedure_of x) && families.generated x) (families.brought p))) _ rest in
    record {
      boundary = λ has. apply _ _ boundary has;
      where_generated = λ site x p call entered at_x has.
          apply _ _ (at_call shape (λ q u. implies (families.entered (shape.procedure_of u) && families.generated u) (families.brought q))
          generated site x p call) (and_from _ _ entered has);
      where_preserved = λ site x p call entered at_x has keeps.
          apply _ _ (at_call shape (λ q u. implies (families.brought (shape.procedure_of u) && families.preserved u) (families.brought q))
          preserved site x p call) (and_from _ _ has keeps);
    }

abbrev pub closed : Shape → Transfer → Families → Bool
closed shape transfer families = closed_reached shape families && (closed_preserved shape transfer families
    && (closed_generated shape transfer families && (closed_entered shape families && closed_brought shape transfer families)))

-- what closed families lack is not in the least solution
pub not_in_solution : (shape : Shape) (transfer : Transfer) (families : Families) → closed shape transfer families ≡ true → (x : ℕ)
    → families.generated x ≡ false → (families.brought (shape.procedure_of x) && families.preserved x) ≡ false
    → ¬ (IsInSolution shape transfer x)
not_in_solution shape transfer families passes x no_generated no_brought member = go member.1
  where
    go : Generated shape transfer x ⊎ (Brought shape transfer (shape.procedure_of x) × Preserved shape transfer.kill x) → ⊥
    go =
        let (r, rest) = and_parts (closed_reached shape families) _ passes in
        let (k, rest) = and_parts (closed_preserved shape transfer families) _ rest in
        let (m, rest) = and_parts (closed_generated shape transfer families) _ rest in
        let (e, b) = and_parts (closed_entered shape families) _ rest in
        let rc = reached_closed shape families r in
        let kc = preserved_closed shape transfer families k in
        let mc = generated_closed shape transfer families m in
        elim [
          | inl generated ↦ (let has : families.generated x ≡ true = generated_least rc kc mc generated in cc (has, no_generated))
          | inr both ↦ (
              let has : families.brought (shape.procedure_of x) ≡ true =
              brought_least rc kc mc (entered_closed shape families e) (brought_closed shape transfer families b) both.0 in
              let keeps : families.preserved x ≡ true = preserved_least rc kc both.1 in
              let all = and_from _ _ has keeps in
              cc (all, no_brought))
        ]
