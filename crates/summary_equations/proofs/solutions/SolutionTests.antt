-- The least solution is decided: a shape has finitely many edges and procedures
use Rattle.std.proofs.Common.{◌≡◌, ℕ, zero, suc, Bool, true, false, not, ◌&&◌, ◌||◌, nat_eq, List, [], ◌∷◌, ◌++◌, map, ◌<◌, ◌⊎◌, inl, inr, refl, ap}
use Rattle.std.proofs.Common.{◌∙◌, arith}
use Rattle.std.specs.List.{list_any}
use Rattle.std.proofs.lemmas.List.Folds.{list_any-append}
use Rattle.std.proofs.lemmas.Bool.{eqb-true, or_left, or_right, or_cases, and_parts, and_from, not-true}
use Rattle.flow_graph.specs.declared.edge.Edge.{Edge}
use Rattle.flow_graph.specs.declared.edge.Edge.TheVariants.{Step, Call, Ret}
use Rattle.flow_graph.specs.Paths.{target_of, Shape, Transfer, IsEdge}
use Rattle.flow_graph.proofs.graphs.ExampleLemmas.{is_one_of}
use Rattle.flow_graph.proofs.paths.PathLemmas.{nat_eq_same}
use Rattle.flow_graph.proofs.paths.Reversal.{Contains-map}
use Rattle.summary_equations.specs.Equations.{CallsAt, ReturnsTo, Reached, entry_is_reached, reached_by_step, reached_by_call, Preserved, preserved_at_entry}
use Rattle.summary_equations.specs.Equations.{preserved_by_step, preserved_by_call, Generated, generated_by_step, generated_before_step, generated_by_callee, generated_before_call}
use Rattle.summary_equations.specs.Equations.{Entered}
use Rattle.summary_equations.specs.Equations.{root_is_entered, entered_by_call, Brought, brought_by_boundary, brought_where_generated, brought_where_preserved}
use Rattle.summary_equations.specs.Equations.{HasFlag}
use Rattle.summary_equations.specs.Equations.{IsInSolution, IsClosedReached, IsClosedPreserved, IsClosedGenerated, IsClosedEntered}
use Rattle.summary_equations.specs.Laws.{Passes}
use Rattle.flow_graph.proofs.searches.FiniteSearch.{contains_any, any_contains, any_below}
use Rattle.flow_graph.proofs.searches.FiniteSearch.{some_below, below_some, Test, decided, least_test}
use Rattle.summary_equations.proofs.solutions.Least.{reached_least, preserved_least, generated_least, entered_least, brought_least}

-- whether a step, a call, or a call with its return, passes a test
abbrev step_passes : (ℕ → ℕ → Bool) → Edge → Bool
step_passes test (Step x y) = test x y
step_passes test (Call site x y) = false
step_passes test (Ret site x y) = false

abbrev call_passes : ℕ → (ℕ → Bool) → Edge → Bool
call_passes entry test (Step x y) = false
call_passes entry test (Call site x y) = nat_eq y entry && test x
call_passes entry test (Ret site x y) = false

abbrev return_passes : ℕ → ℕ → (ℕ → Bool) → Edge → Bool
return_passes exit site test (Step x y) = false
return_passes exit site test (Call other x y) = false
return_passes exit site test (Ret other x y) = (nat_eq other site && nat_eq x exit) && test y

abbrev through_passes : Shape → ℕ → (ℕ → ℕ → Bool) → Edge → Bool
through_passes shape procedure test (Step x y) = false
through_passes shape procedure test (Call site x y) =
    nat_eq y (shape.entry procedure) && list_any (return_passes (shape.exit procedure) site (test x)) shape.edges
through_passes shape procedure test (Ret site x y) = false

abbrev any_step : Shape → (ℕ → ℕ → Bool) → Bool
any_step shape test = list_any (step_passes test) shape.edges

abbrev any_call : Shape → (ℕ → ℕ → Bool) → Bool
any_call shape test = any_below shape.procedures (λ p. list_any (call_passes (shape.entry p) (test p)) shape.edges)

abbrev any_through : Shape → (ℕ → ℕ → ℕ → Bool) → Bool
any_through shape test = any_below shape.procedures (λ p. list_any (through_passes shape p (test p)) shape.edges)

-- A point that a clause gives: an entry, where entries are given, the end of a step that passes one test, or the point
-- after a call that passes another.
data GivenPoint (shape : Shape) (entries : Bool) (step : ℕ → ℕ → Bool) (through : ℕ → ℕ → ℕ → Bool) : ℕ → Type 0 where
  given_entry : (p : ℕ) → entries ≡ true → p < shape.procedures → GivenPoint shape entries step through (shape.entry p)
  given_step : (x y : ℕ) → IsEdge shape (Step x y) → step x y ≡ true → GivenPoint shape entries step through y
  given_through : (site x p z : ℕ) → CallsAt shape site x p → ReturnsTo shape site p z → through p x z ≡ true
      → GivenPoint shape entries step through z

-- a procedure that a clause gives: the root's, or the callee of a call
data GivenProcedure (shape : Shape) (root : Bool) (call : ℕ → ℕ → Bool) : ℕ → Type 0 where
  given_root : root ≡ true → GivenProcedure shape root call shape.root_procedure
  given_call : (site x p : ℕ) → CallsAt shape site x p → call p x ≡ true → GivenProcedure shape root call p

abbrev gives_point : Shape → Bool → (ℕ → ℕ → Bool) → (ℕ → ℕ → ℕ → Bool) → ℕ → Bool
gives_point shape entries step through z =
    (entries && any_below shape.procedures (λ p. nat_eq (shape.entry p) z))
    || (any_step shape (λ x y. nat_eq y z && step x y) || any_through shape (λ p x y. nat_eq y z && through p x y))

abbrev gives_procedure : Shape → Bool → (ℕ → ℕ → Bool) → ℕ → Bool
gives_procedure shape root call q = (root && nat_eq shape.root_procedure q) || any_call shape (λ p x. nat_eq p q && call p x)

module _ (shape : Shape) where
  step_found : (test : ℕ → ℕ → Bool) → any_step shape test ≡ true → (x : ℕ) × (y : ℕ) × IsEdge shape (Step x y) × (test x y ≡ true)
  step_found test any = let (edge, at, passes) = any_contains (step_passes test) shape.edges any in go edge at passes
    where
      go : (edge : Edge) → IsEdge shape edge → step_passes test edge ≡ true → (x : ℕ) × (y : ℕ) × IsEdge shape (Step x y) × (test x y ≡ true)
      go (Step x y) at passes = (x, y, at, passes)
      go (Call site x y) at passes = absurd (cc passes)
      go (Ret site x y) at passes = absurd (cc passes)

  call_found : (test : ℕ → ℕ → Bool) → any_call shape test ≡ true → (site : ℕ) × (x : ℕ) × (p : ℕ) × CallsAt shape site x p × (test p x ≡ true)
  call_found test any =
      let (p, in_range, calls) = some_below shape.procedures (λ q. list_any (call_passes (shape.entry q) (test q)) shape.edges) any in
      let (edge, at, passes) = any_contains (call_passes (shape.entry p) (test p)) shape.edges calls in
      go p in_range edge at passes
    where
      go : (p : ℕ) → p < shape.procedures → (edge : Edge) → IsEdge shape edge → call_passes (shape.entry p) (test p) edge ≡ true
          → (site : ℕ) × (x : ℕ) × (p : ℕ) × CallsAt shape site x p × (test p x ≡ true)
      go p in_range (Step x y) at passes = absurd (cc passes)
      go p in_range (Call site x y) at passes =
          let (same, holds) = and_parts (nat_eq y (shape.entry p)) (test p x) passes in
          (site, x, p, (in_range, rw (eqb-true y (shape.entry p) same) at at), holds)
      go p in_range (Ret site x y) at passes = absurd (cc passes)

  through_found : (test : ℕ → ℕ → ℕ → Bool) → any_through shape test ≡ true
      → (site : ℕ) × (x : ℕ) × (p : ℕ) × (z : ℕ) × CallsAt shape site x p × ReturnsTo shape site p z × (test p x z ≡ true)
  through_found test any =
      let (p, in_range, calls) = some_below shape.procedures (λ q. list_any (through_passes shape q (test q)) shape.edges) any in
      let (edge, at, passes) = any_contains (through_passes shape p (test p)) shape.edges calls in
      go p in_range edge at passes
    where
      back : (p site x : ℕ) → CallsAt shape site x p → (edge : Edge) → IsEdge shape edge → return_passes (shape.exit p) site (test p x) edge ≡ true
          → (site : ℕ) × (x : ℕ) × (p : ℕ) × (z : ℕ) × CallsAt shape site x p × ReturnsTo shape site p z × (test p x z ≡ true)
      back p site x call (Step u z) at passes = absurd (cc passes)
      back p site x call (Call other u z) at passes = absurd (cc passes)
      back p site x call (Ret other u z) at passes =
          let (ends, holds) = and_parts (nat_eq other site && nat_eq u (shape.exit p)) (test p x z) passes in
          let (same_site, same_exit) = and_parts (nat_eq other site) (nat_eq u (shape.exit p)) ends in
          (site, x, p, z, call, rw (eqb-true other site same_site, eqb-true u (shape.exit p) same_exit) at at, holds)

      go : (p : ℕ) → p < shape.procedures → (edge : Edge) → IsEdge shape edge → through_passes shape p (test p) edge ≡ true
          → (site : ℕ) × (x : ℕ) × (p : ℕ) × (z : ℕ) × CallsAt shape site x p × ReturnsTo shape site p z × (test p x z ≡ true)
      go p in_range (Step x y) at passes = absurd (cc passes)
      go p in_range (Call site x y) at passes =
          let (same, returns) = and_parts (nat_eq y (shape.entry p)) (list_any (return_passes (shape.exit p) site (test p x)) shape.edges) passes in
          let (edge, at_edge, holds) = any_contains (return_passes (shape.exit p) site (test p x)) shape.edges returns in
          back p site x (in_range, rw (eqb-true y (shape.entry p) same) at at) edge at_edge holds
      go p in_range (Ret site x y) at passes = absurd (cc passes)

  any_step_of : (test : ℕ → ℕ → Bool) (x y : ℕ) → IsEdge shape (Step x y) → test x y ≡ true → any_step shape test ≡ true
  any_step_of test x y edge passes = contains_any (step_passes test) shape.edges (Step x y) edge passes

  any_call_of : (test : ℕ → ℕ → Bool) (site x p : ℕ) → CallsAt shape site x p → test p x ≡ true → any_call shape test ≡ true
  any_call_of test site x p call passes =
      below_some shape.procedures (λ q. list_any (call_passes (shape.entry q) (test q)) shape.edges) p call.0
      (contains_any (call_passes (shape.entry p) (test p)) shape.edges (Call site x (shape.entry p)) call.1
      (and_from _ _ (nat_eq_same (shape.entry p)) passes))

  any_through_of : (test : ℕ → ℕ → ℕ → Bool) (site x p z : ℕ) → CallsAt shape site x p → ReturnsTo shape site p z → test p x z ≡ true
      → any_through shape test ≡ true
  any_through_of test site x p z call return passes =
      let returns = contains_any (return_passes (shape.exit p) site (test p x)) shape.edges (Ret site (shape.exit p) z) return
      (and_from _ _ (and_from _ _ (nat_eq_same site) (nat_eq_same (shape.exit p))) passes) in
      below_some shape.procedures (λ q. list_any (through_passes shape q (test q)) shape.edges) p call.0
      (contains_any (through_passes shape p (test p)) shape.edges (Call site x (shape.entry p)) call.1
      (and_from _ _ (nat_eq_same (shape.entry p)) returns))

  module _ (entries : Bool) (step : ℕ → ℕ → Bool) (through : ℕ → ℕ → ℕ → Bool) where
    given_of_point : (z : ℕ) → gives_point shape entries step through z ≡ true → GivenPoint shape entries step through z
    given_of_point z gives = go (or_cases (entries && any_below shape.procedures (λ p. nat_eq (shape.entry p) z)) _ gives)
      where
        moved : (any_step shape (λ x y. nat_eq y z && step x y) ≡ true) ⊎ (any_through shape (λ p x y. nat_eq y z && through p x y) ≡ true)
            → GivenPoint shape entries step through z
        moved (inl any) =
            let (x, y, edge, both) = step_found (λ x y. nat_eq y z && step x y) any in
            let (same, passes) = and_parts (nat_eq y z) (step x y) both in
            rw (← eqb-true y z same) (given_step x y edge passes)
        moved (inr any) =
            let (site, x, p, y, call, return, both) = through_found (λ p x y. nat_eq y z && through p x y) any in
            let (same, passes) = and_parts (nat_eq y z) (through p x y) both in
            rw (← eqb-true y z same) (given_through site x p y call return passes)

        go : ((entries && any_below shape.procedures (λ p. nat_eq (shape.entry p) z)) ≡ true)
            ⊎ ((any_step shape (λ x y. nat_eq y z && step x y) || any_through shape (λ p x y. nat_eq y z && through p x y)) ≡ true)
            → GivenPoint shape entries step through z
        go (inl both) =
            let (are_given, any) = and_parts entries _ both in
            let (p, in_range, same) = some_below shape.procedures (λ q. nat_eq (shape.entry q) z) any in
            rw (← eqb-true (shape.entry p) z same) (given_entry p are_given in_range)
        go (inr any) = moved (or_cases (any_step shape (λ x y. nat_eq y z && step x y)) _ any)

    point_of_given : (z : ℕ) → GivenPoint shape entries step through z → gives_point shape entries step through z ≡ true
    point_of_given z (given_entry p are_given in_range) =
        or_left (entries && any_below shape.procedures (λ q. nat_eq (shape.entry q) (shape.entry p))) _ (and_from _ _ are_given
        (below_some shape.procedures (λ q. nat_eq (shape.entry q) (shape.entry p)) p in_range (nat_eq_same (shape.entry p))))
    point_of_given z (given_step x y edge passes) =
        or_right (entries && any_below shape.procedures (λ p. nat_eq (shape.entry p) y)) _
        (or_left (any_step shape (λ u v. nat_eq v y && step u v))
        _ (any_step_of (λ u v. nat_eq v y && step u v) x y edge (and_from _ _ (nat_eq_same y) passes)))
    point_of_given z (given_through site x p y call return passes) =
        or_right (entries && any_below shape.procedures (λ q. nat_eq (shape.entry q) y)) _
        (or_right (any_step shape (λ u v. nat_eq v y && step u v)) _
        (any_through_of (λ q u v. nat_eq v y && through q u v) site x p y call return (and_from _ _ (nat_eq_same y) passes)))

  module _ (root : Bool) (call : ℕ → ℕ → Bool) where
    given_of_procedure : (q : ℕ) → gives_procedure shape root call q ≡ true → GivenProcedure shape root call q
    given_of_procedure q gives = go (or_cases (root && nat_eq shape.root_procedure q) _ gives)
      where
        go : ((root && nat_eq shape.root_procedure q) ≡ true) ⊎ (any_call shape (λ p x. nat_eq p q && call p x) ≡ true)
            → GivenProcedure shape root call q
        go (inl both) =
            let (is_given, same) = and_parts root (nat_eq shape.root_procedure q) both in
            rw (← eqb-true shape.root_procedure q same) (given_root is_given)
        go (inr any) =
            let (site, x, p, calls, both) = call_found (λ p x. nat_eq p q && call p x) any in
            let (same, passes) = and_parts (nat_eq p q) (call p x) both in
            rw (← eqb-true p q same) (given_call site x p calls passes)

    procedure_of_given : (q : ℕ) → GivenProcedure shape root call q → gives_procedure shape root call q ≡ true
    procedure_of_given q (given_root is_given) =
        or_left (root && nat_eq shape.root_procedure shape.root_procedure) _ (and_from _ _ is_given (nat_eq_same shape.root_procedure))
    procedure_of_given q (given_call site x p calls passes) =
        or_right (root && nat_eq shape.root_procedure p)
        _ (any_call_of (λ r u. nat_eq r p && call r u) site x p calls (and_from _ _ (nat_eq_same p) passes))

-- the numbers below a bound
abbrev numbers_below : ℕ → List ℕ
numbers_below zero = []
numbers_below (suc n) = n ∷ numbers_below n

is_below : (n k : ℕ) → k < n → is_one_of (numbers_below n) k ≡ true
is_below zero k less = absurd (omega arith)
is_below (suc n) k less = go (nat_eq k n) refl (λ below. is_below n k below)
  where
    go : (same : Bool) → nat_eq k n ≡ same → (k < n → is_one_of (numbers_below n) k ≡ true) → (same || is_one_of (numbers_below n) k) ≡ true
    go true same rest = refl
    go false same rest = rest (grind arith)

image_below : (f : ℕ → ℕ) (n k : ℕ) → k < n → is_one_of (map f (numbers_below n)) (f k) ≡ true
image_below f zero k less = absurd (omega arith)
image_below f (suc n) k less = go (nat_eq k n) refl (λ below. image_below f n k below)
  where
    go : (same : Bool) → nat_eq k n ≡ same → (k < n → is_one_of (map f (numbers_below n)) (f k) ≡ true)
        → (nat_eq (f k) (f n) || is_one_of (map f (numbers_below n)) (f k)) ≡ true
    go true same rest = or_left (nat_eq (f k) (f n)) _ (rw (eqb-true k n same) (nat_eq_same (f n)))
    go false same rest = or_right (nat_eq (f k) (f n)) _ (rest (grind arith))

abbrev given_points : Shape → List ℕ
given_points shape = map shape.entry (numbers_below shape.procedures) ++ map target_of shape.edges

abbrev given_procedures : Shape → List ℕ
given_procedures shape = shape.root_procedure ∷ numbers_below shape.procedures

is_target : (shape : Shape) (edge : Edge) → IsEdge shape edge → is_one_of (given_points shape) (target_of edge) ≡ true
is_target shape edge is_edge =
    list_any-append (nat_eq (target_of edge)) (map shape.entry (numbers_below shape.procedures)) (map target_of shape.edges)
    ∙ or_right _ _ (contains_any (nat_eq (target_of edge)) (map target_of shape.edges) (target_of edge)
    (Contains-map target_of shape.edges edge is_edge) (nat_eq_same (target_of edge)))

is_given_point : {shape : Shape} {entries : Bool} {step : ℕ → ℕ → Bool} {through : ℕ → ℕ → ℕ → Bool} (z : ℕ) → GivenPoint shape entries step through z
    → is_one_of (given_points shape) z ≡ true
is_given_point {shape} z (given_entry p are_given in_range) =
    list_any-append (nat_eq (shape.entry p)) (map shape.entry (numbers_below shape.procedures)) (map target_of shape.edges)
    ∙ or_left _ _ (image_below shape.entry shape.procedures p in_range)
is_given_point {shape} z (given_step x y edge passes) = is_target shape (Step x y) edge
is_given_point {shape} z (given_through site x p y call return passes) = is_target shape (Ret site (shape.exit p) y) return

is_given_procedure : {shape : Shape} {root : Bool} {call : ℕ → ℕ → Bool} (q : ℕ) → GivenProcedure shape root call q
    → is_one_of (given_procedures shape) q ≡ true
is_given_procedure {shape} q (given_root is_given) = or_left (nat_eq shape.root_procedure shape.root_procedure) _ (nat_eq_same shape.root_procedure)
is_given_procedure {shape} q (given_call site x p call passes) = or_right (nat_eq p shape.root_procedure) _ (is_below shape.procedures p call.0)

point_test : (shape : Shape) (Family : ℕ → Type 0) (entries : Bool) (step : (ℕ → Bool) → ℕ → ℕ → Bool) (through : (ℕ → Bool) → ℕ → ℕ → ℕ → Bool)
    → ((found : ℕ → Bool) → ((y : ℕ) → found y ≡ true → Family y) → (z : ℕ) → GivenPoint shape entries (step found) (through found) z → Family z)
    → ((found : ℕ → Bool) → ((z : ℕ) → GivenPoint shape entries (step found) (through found) z → found z ≡ true) → (z : ℕ) → Family z
    → found z ≡ true) → Test Family
point_test shape Family entries step through sound least =
    least_test Family (λ found z. gives_point shape entries (step found) (through found) z) (given_points shape)
    (λ found known z gives. sound found known z (given_of_point shape entries (step found) (through found) z gives))
    (λ found closed z member. least found (λ y given. closed y (point_of_given shape entries (step found) (through found) y given)) z member)
    (λ found z gives. is_given_point z (given_of_point shape entries (step found) (through found) z gives))

procedure_test : (shape : Shape) (Family : ℕ → Type 0) (root : Bool) (call : (ℕ → Bool) → ℕ → ℕ → Bool)
    → ((found : ℕ → Bool) → ((p : ℕ) → found p ≡ true → Family p) → (q : ℕ) → GivenProcedure shape root (call found) q → Family q)
    → ((found : ℕ → Bool) → ((q : ℕ) → GivenProcedure shape root (call found) q → found q ≡ true) → (q : ℕ) → Family q → found q ≡ true) → Test Family
procedure_test shape Family root call sound least =
    least_test Family (λ found q. gives_procedure shape root (call found) q) (given_procedures shape)
    (λ found known q gives. sound found known q (given_of_procedure shape root (call found) q gives))
    (λ found closed q member. least found (λ p given. closed p (procedure_of_given shape root (call found) p given)) q member)
    (λ found q gives. is_given_procedure q (given_of_procedure shape root (call found) q gives))

reached_sound : (shape : Shape) (found : ℕ → Bool) → ((y : ℕ) → found y ≡ true → Reached shape y) → (z : ℕ)
    → GivenPoint shape true (λ x y. found x) (λ p x y. found x && found (shape.exit p)) z → Reached shape z
reached_sound shape found known z (given_entry p are_given in_range) = entry_is_reached p in_range
reached_sound shape found known z (given_step x y edge passes) = reached_by_step x y edge (known x passes)
reached_sound shape found known z (given_through site x p y call return passes) =
    let (at_x, at_exit) = and_parts (found x) (found (shape.exit p)) passes in
    reached_by_call site x p y call return (known x at_x) (known (shape.exit p) at_exit)

pub reached_test : (shape : Shape) → Test (Reached shape)
reached_test shape =
    point_test shape (Reached shape) true (λ found x y. found x) (λ found p x y. found x && found (shape.exit p)) (reached_sound shape)
    (λ found closed z member. reached_least {reached = Passes found} (record {
      entry = λ p in_range. closed (shape.entry p) (given_entry p refl in_range);
      step = λ x y edge at_x. closed y (given_step x y edge at_x);
      call = λ site x p y call return at_x at_exit. closed y (given_through site x p y call return (and_from _ _ at_x at_exit));
    }) member)

entered_sound : (shape : Shape) (found : ℕ → Bool) → ((p : ℕ) → found p ≡ true → Entered shape p) → (q : ℕ)
    → GivenProcedure shape true (λ p x. found (shape.procedure_of x) && (reached_test shape).test x) q → Entered shape q
entered_sound shape found known q (given_root is_given) = root_is_entered
entered_sound shape found known q (given_call site x p call passes) =
    let (entered, at_x) = and_parts (found (shape.procedure_of x)) ((reached_test shape).test x) passes in
    entered_by_call site x p call (known (shape.procedure_of x) entered) ((reached_test shape).sound x at_x)

reached_all : (shape : Shape) → IsClosedReached shape (Passes (reached_test shape).test)
reached_all shape =
    let r = reached_test shape in
    record {
      entry = λ p in_range. r.complete (shape.entry p) (entry_is_reached p in_range);
      step = λ x y edge at_x. r.complete y (reached_by_step x y edge (r.sound x at_x));
      call = λ site x p y call return at_x at_exit.
          r.complete y (reached_by_call site x p y call return (r.sound x at_x) (r.sound (shape.exit p) at_exit));
    }

pub entered_test : (shape : Shape) → Test (Entered shape)
entered_test shape =
    procedure_test shape (Entered shape) true (λ found p x. found (shape.procedure_of x) && (reached_test shape).test x) (entered_sound shape)
    (λ found closed q member. entered_least {entered = Passes found} (reached_all shape) (record {
      root = closed shape.root_procedure (given_root refl);
      call = λ site x p call entered at_x. closed p (given_call site x p call (and_from _ _ entered at_x));
    }) member)

pub flag_decided : (shape : Shape) (x : ℕ) → HasFlag shape x ⊎ (¬ (HasFlag shape x))
flag_decided shape x = go (decided (entered_test shape) (shape.procedure_of x)) (decided (reached_test shape) x)
  where
    go : Entered shape (shape.procedure_of x) ⊎ (¬ (Entered shape (shape.procedure_of x))) → Reached shape x ⊎ (¬ (Reached shape x))
        → HasFlag shape x ⊎ (¬ (HasFlag shape x))
    go (inl entered) (inl at_x) = inl (entered, at_x)
    go (inr never) at_x = inr (λ flag. never flag.0)
    go (inl entered) (inr not_at) = inr (λ flag. not_at flag.1)

-- the step and the call of the clauses of preserved, over a test for reached
abbrev keeps_step : Shape → (ℕ → ℕ → Bool) → (ℕ → Bool) → ℕ → ℕ → Bool
keeps_step shape kill found x y = (reached_test shape).test x && (found x && not (kill x y))

abbrev through_reached : Shape → ℕ → ℕ → Bool
through_reached shape p x = (reached_test shape).test x && (reached_test shape).test (shape.exit p)

abbrev keeps_through : Shape → (ℕ → Bool) → ℕ → ℕ → ℕ → Bool
keeps_through shape found p x y = through_reached shape p x && (found x && found (shape.exit p))

preserved_sound : (shape : Shape) (kill : ℕ → ℕ → Bool) (found : ℕ → Bool) → ((y : ℕ) → found y ≡ true → Preserved shape kill y) → (z : ℕ)
    → GivenPoint shape true (keeps_step shape kill found) (keeps_through shape found) z → Preserved shape kill z
preserved_sound shape kill found known z (given_entry p are_given in_range) = preserved_at_entry p in_range
preserved_sound shape kill found known z (given_step x y edge passes) =
    let (at_x, rest) = and_parts ((reached_test shape).test x) (found x && not (kill x y)) passes in
    let (preserved, unkilled) = and_parts (found x) (not (kill x y)) rest in
    preserved_by_step x y edge ((reached_test shape).sound x at_x) (known x preserved) (not-true (kill x y) unkilled)
preserved_sound shape kill found known z (given_through site x p y call return passes) =
    let (reached, preserved) = and_parts (through_reached shape p x) (found x && found (shape.exit p)) passes in
    let (at_x, at_exit) = and_parts ((reached_test shape).test x) ((reached_test shape).test (shape.exit p)) reached in
    let (before, through) = and_parts (found x) (found (shape.exit p)) preserved in
    preserved_by_call site x p y call return ((reached_test shape).sound x at_x) ((reached_test shape).sound (shape.exit p) at_exit) (known x before)
    (known (shape.exit p) through)

pub preserved_test : (shape : Shape) (kill : ℕ → ℕ → Bool) → Test (Preserved shape kill)
preserved_test shape kill = point_test shape (Preserved shape kill) true (keeps_step shape kill) (keeps_through shape) (preserved_sound shape kill)
    (λ found closed z member. preserved_least {preserved = Passes found} (reached_all shape) (record {
      entry = λ p in_range. closed (shape.entry p) (given_entry p refl in_range);
      step = λ x y edge at_x preserved unkilled. closed y (given_step x y edge (and_from _ _ at_x (and_from _ _ preserved (ap not unkilled))));
      call = λ site x p y call return at_x at_exit preserved through.
          closed y (given_through site x p y call return (and_from _ _ (and_from _ _ at_x at_exit) (and_from _ _ preserved through)));
    }) member)

preserved_all : (shape : Shape) (kill : ℕ → ℕ → Bool) → IsClosedPreserved shape kill (Passes (reached_test shape).test) (Passes (preserved_test shape kill).test)
preserved_all shape kill =
    let r = reached_test shape in
    let k = preserved_test shape kill in
    record {
      entry = λ p in_range. k.complete (shape.entry p) (preserved_at_entry p in_range);
      step = λ x y edge at_x preserved unkilled. k.complete y (preserved_by_step x y edge (r.sound x at_x) (k.sound x preserved) unkilled);
      call = λ site x p y call return at_x at_exit preserved through.
          k.complete y (preserved_by_call site x p y call return (r.sound x at_x) (r.sound (shape.exit p) at_exit) (k.sound x preserved)
          (k.sound (shape.exit p) through));
    }

abbrev makes_step : Shape → Transfer → (ℕ → Bool) → ℕ → ℕ → Bool
makes_step shape transfer found x y = (reached_test shape).test x && (transfer.gen x y || (found x && not (transfer.kill x y)))

abbrev makes_through : Shape → Transfer → (ℕ → Bool) → ℕ → ℕ → ℕ → Bool
makes_through shape transfer found p x y =
    through_reached shape p x && (found (shape.exit p) || (found x && (preserved_test shape transfer.kill).test (shape.exit p)))

generated_sound : (shape : Shape) (transfer : Transfer) (found : ℕ → Bool) → ((y : ℕ) → found y ≡ true → Generated shape transfer y) → (z : ℕ)
    → GivenPoint shape false (makes_step shape transfer found) (makes_through shape transfer found) z → Generated shape transfer z
generated_sound shape transfer found known z (given_entry p are_given in_range) = absurd (cc are_given)
generated_sound shape transfer found known z (given_step x y edge passes) =
    let (at_x, rest) = and_parts ((reached_test shape).test x) (transfer.gen x y || (found x && not (transfer.kill x y))) passes in
    go ((reached_test shape).sound x at_x) (or_cases (transfer.gen x y) (found x && not (transfer.kill x y)) rest)
  where
    go : Reached shape x → (transfer.gen x y ≡ true) ⊎ ((found x && not (transfer.kill x y)) ≡ true) → Generated shape transfer y
    go at_x (inl gens) = generated_by_step x y edge at_x gens
    go at_x (inr both) =
        let (generated, unkilled) = and_parts (found x) (not (transfer.kill x y)) both in
        generated_before_step x y edge at_x (known x generated) (not-true (transfer.kill x y) unkilled)
generated_sound shape transfer found known z (given_through site x p y call return passes) =
    let (reached, rest) =
    and_parts (through_reached shape p x) (found (shape.exit p) || (found x && (preserved_test shape transfer.kill).test (shape.exit p))) passes in
    let (at_x, at_exit) = and_parts ((reached_test shape).test x) ((reached_test shape).test (shape.exit p)) reached in
    go ((reached_test shape).sound x at_x) ((reached_test shape).sound (shape.exit p) at_exit)
    (or_cases (found (shape.exit p)) (found x && (preserved_test shape transfer.kill).test (shape.exit p)) rest)
  where
    go : Reached shape x → Reached shape (shape.exit p)
        → (found (shape.exit p) ≡ true) ⊎ ((found x && (preserved_test shape transfer.kill).test (shape.exit p)) ≡ true) → Generated shape transfer y
    go at_x at_exit (inl generated) = generated_by_callee site x p y call return at_x at_exit (known (shape.exit p) generated)
    go at_x at_exit (inr both) =
        let (generated, preserved) = and_parts (found x) ((preserved_test shape transfer.kill).test (shape.exit p)) both in
        generated_before_call site x p y call return at_x at_exit (known x generated) ((preserved_test shape transfer.kill).sound (shape.exit p) preserved)

pub generated_test : (shape : Shape) (transfer : Transfer) → Test (Generated shape transfer)
generated_test shape transfer =
    point_test shape (Generated shape transfer) false (makes_step shape transfer) (makes_through shape transfer) (generated_sound shape transfer)
    (λ found closed z member. generated_least {generated = Passes found} (reached_all shape) (preserved_all shape transfer.kill) (record {
      by_step = λ x y edge at_x gens. closed y (given_step x y edge (and_from _ _ at_x (or_left (transfer.gen x y) _ gens)));
      before_step = λ x y edge at_x generated unkilled.
          closed y (given_step x y edge (and_from _ _ at_x (or_right (transfer.gen x y) _ (and_from _ _ generated (ap not unkilled)))));
      by_callee = λ site x p y call return at_x at_exit generated.
          closed y (given_through site x p y call return (and_from _ _ (and_from _ _ at_x at_exit) (or_left (found (shape.exit p)) _ generated)));
      before_call = λ site x p y call return at_x at_exit generated preserved.
          closed y (given_through site x p y call return
          (and_from _ _ (and_from _ _ at_x at_exit) (or_right (found (shape.exit p)) _ (and_from _ _ generated preserved))));
    }) member)

abbrev brings : Shape → Transfer → (ℕ → Bool) → ℕ → ℕ → Bool
brings shape transfer found p x =
    ((entered_test shape).test (shape.procedure_of x) && (reached_test shape).test x)
    && ((generated_test shape transfer).test x || (found (shape.procedure_of x) && (preserved_test shape transfer.kill).test x))

brought_sound : (shape : Shape) (transfer : Transfer) (found : ℕ → Bool) → ((p : ℕ) → found p ≡ true → Brought shape transfer p) → (q : ℕ)
    → GivenProcedure shape transfer.boundary (brings shape transfer found) q → Brought shape transfer q
brought_sound shape transfer found known q (given_root is_given) = brought_by_boundary is_given
brought_sound shape transfer found known q (given_call site x p call passes) =
    let (flags, rest) = and_parts ((entered_test shape).test (shape.procedure_of x) && (reached_test shape).test x) _ passes in
    let (entered, at_x) = and_parts ((entered_test shape).test (shape.procedure_of x)) ((reached_test shape).test x) flags in
    go ((entered_test shape).sound (shape.procedure_of x) entered) ((reached_test shape).sound x at_x)
    (or_cases ((generated_test shape transfer).test x) (found (shape.procedure_of x) && (preserved_test shape transfer.kill).test x) rest)
  where
    go : Entered shape (shape.procedure_of x) → Reached shape x
        → ((generated_test shape transfer).test x ≡ true) ⊎ ((found (shape.procedure_of x) && (preserved_test shape transfer.kill).test x) ≡ true)
        → Brought shape transfer p
    go entered at_x (inl generated) = brought_where_generated site x p call entered at_x ((generated_test shape transfer).sound x generated)
    go entered at_x (inr both) =
        let (brought, preserved) = and_parts (found (shape.procedure_of x)) ((preserved_test shape transfer.kill).test x) both in
        brought_where_preserved site x p call entered at_x (known (shape.procedure_of x) brought) ((preserved_test shape transfer.kill).sound x preserved)

entered_all : (shape : Shape) → IsClosedEntered shape (Passes (reached_test shape).test) (Passes (entered_test shape).test)
entered_all shape = record {
  root = (entered_test shape).complete shape.root_procedure root_is_entered;
  call = λ site x p call entered at_x.
      (entered_test shape).complete p
      (entered_by_call site x p call ((entered_test shape).sound (shape.procedure_of x) entered) ((reached_test shape).sound x at_x));
}

generated_all : (shape : Shape) (transfer : Transfer) → IsClosedGenerated shape transfer (Passes (reached_test shape).test)
    (Passes (preserved_test shape transfer.kill).test) (Passes (generated_test shape transfer).test)
generated_all shape transfer =
    let r = reached_test shape in
    let k = preserved_test shape transfer.kill in
    let m = generated_test shape transfer in
    record {
      by_step = λ x y edge at_x gens. m.complete y (generated_by_step x y edge (r.sound x at_x) gens);
      before_step = λ x y edge at_x generated unkilled. m.complete y (generated_before_step x y edge (r.sound x at_x) (m.sound x generated) unkilled);
      by_callee = λ site x p y call return at_x at_exit generated.
          m.complete y (generated_by_callee site x p y call return (r.sound x at_x) (r.sound (shape.exit p) at_exit) (m.sound (shape.exit p) generated));
      before_call = λ site x p y call return at_x at_exit generated preserved.
          m.complete y (generated_before_call site x p y call return (r.sound x at_x) (r.sound (shape.exit p) at_exit) (m.sound x generated)
          (k.sound (shape.exit p) preserved));
    }

pub brought_test : (shape : Shape) (transfer : Transfer) → Test (Brought shape transfer)
brought_test shape transfer = procedure_test shape (Brought shape transfer) transfer.boundary (brings shape transfer) (brought_sound shape transfer)
    (λ found closed q member. brought_least {brought = Passes found} (reached_all shape) (preserved_all shape transfer.kill) (generated_all shape transfer)
    (entered_all shape) (record {
      boundary = λ has. closed shape.root_procedure (given_root has);
      where_generated = λ site x p call entered at_x generated.
          closed p (given_call site x p call (and_from _ _ (and_from _ _ entered at_x) (or_left ((generated_test shape transfer).test x) _ generated)));
      where_preserved = λ site x p call entered at_x brought preserved.
          closed p (given_call site x p call
          (and_from _ _ (and_from _ _ entered at_x) (or_right ((generated_test shape transfer).test x) _ (and_from _ _ brought preserved))));
    }) member)

pub solution_decided : (shape : Shape) (transfer : Transfer) (x : ℕ) → IsInSolution shape transfer x ⊎ (¬ (IsInSolution shape transfer x))
solution_decided shape transfer x =
    go (flag_decided shape x) (decided (generated_test shape transfer) x) (decided (brought_test shape transfer) (shape.procedure_of x))
    (decided (preserved_test shape transfer.kill) x)
  where
    neither : {A B : Type 0} → ¬ A → ¬ B → A ⊎ B → ⊥
    neither not_a not_b (inl a) = not_a a
    neither not_a not_b (inr b) = not_b b

    go : HasFlag shape x ⊎ (¬ (HasFlag shape x)) → Generated shape transfer x ⊎ (¬ (Generated shape transfer x))
        → Brought shape transfer (shape.procedure_of x) ⊎ (¬ (Brought shape transfer (shape.procedure_of x)))
        → Preserved shape transfer.kill x ⊎ (¬ (Preserved shape transfer.kill x))
        → IsInSolution shape transfer x ⊎ (¬ (IsInSolution shape transfer x))
    go (inr no_flag) generated brought preserved = inr (λ member. no_flag member.0)
    go (inl flag) (inl generated) brought preserved = inl (flag, inl generated)
    go (inl flag) (inr not_generated) (inl brought) (inl preserved) = inl (flag, inr (brought, preserved))
    go (inl flag) (inr not_generated) (inr not_brought) preserved = inr (λ member. neither not_generated (λ both. not_brought both.0) member.1)
    go (inl flag) (inr not_generated) (inl brought) (inr not_preserved) = inr (λ member. neither not_generated (λ both. not_preserved both.1) member.1)
