-- Which points have a path is decided, since a shape has finitely many edges; so a point that is not doubtful can finish
use Rattle.std.proofs.Common.{◌≡◌, ℕ, Bool, true, false, ◌&&◌, ◌||◌, nat_eq, List, [], ◌∷◌, ◌++◌, map, Some, ◌⊎◌, inl, inr, refl, sym, ap, ◌∙◌, subst}
use Rattle.std.specs.List.{list_any}
use Rattle.std.proofs.lemmas.Bool.{eqb-true, or_left, or_right, or_cases, and_parts, and_from}
use Rattle.flow_graph.specs.Paths.{Edge, Step, Call, Ret, target_of, Shape, root, IsEdge, IsPath, open_sites_after, HasPath, HasBackwardPath}
use Rattle.flow_graph.specs.Reversals.{reversed_shape, reversed_path}
use Rattle.flow_graph.specs.WellFormed.{IsWellFormed}
use Rattle.flow_graph.specs.MatchedPaths.{IsPathFromEntry, IsEnteringPath}
use Rattle.flow_graph.specs.RunLaws.{UndoubtedFinishes, UndoubtedRunsExtend}
use Rattle.flow_graph.proofs.searches.FiniteSearch.{contains_any, any_contains, decided}
use Rattle.flow_graph.proofs.searches.FiniteSearch.{least_test}
use Rattle.flow_graph.proofs.graphs.ExampleLemmas.{is_one_of}
use Rattle.flow_graph.proofs.paths.PathLemmas.{open_sites_after-none, some_sites, nat_eq_same, same_site}
use Rattle.flow_graph.proofs.paths.Reversal.{Contains-map, valid_reversed, valid_back, reversed_is_well_formed}
use Rattle.flow_graph.proofs.paths.RunLemmas.{runs_extend}
use Rattle.flow_graph.proofs.paths.Splitting.{steps_join, callee_paths_join, calls_enter, valid_join, valid_split}

-- whether an edge is a call of the procedure at the site, from a point that is found
abbrev calls_found : Shape → (ℕ → Bool) → ℕ → ℕ → Edge → Bool
calls_found shape found site procedure (Step x y) = false
calls_found shape found site procedure (Call other x y) = (nat_eq other site && nat_eq (shape.procedure_of y) procedure) && found x
calls_found shape found site procedure (Ret other x y) = false

-- whether an edge leads to z from a point that is found, a return to a site from which its procedure is called at one
abbrev leads_on : Shape → (ℕ → Bool) → ℕ → Edge → Bool
leads_on shape found z (Step x y) = nat_eq y z && found x
leads_on shape found z (Call site x y) = nat_eq y z && found x
leads_on shape found z (Ret site x y) = nat_eq y z && (found x && list_any (calls_found shape found site (shape.procedure_of x)) shape.edges)

abbrev is_next : Shape → (ℕ → Bool) → ℕ → Bool
is_next shape found z = nat_eq (root shape) z || list_any (leads_on shape found z) shape.edges

-- the open calls of a path that has come into a procedure, the latest first, each from a point that is found
abbrev Came : Shape → (ℕ → Bool) → ℕ → List ℕ → Type 0
Came shape found procedure [] = procedure ≡ procedure
Came shape found procedure (site ∷ sites) =
    (x : ℕ) × (y : ℕ) × IsEdge shape (Call site x y) × (shape.procedure_of y ≡ procedure) × (found x ≡ true)
    × Came shape found (shape.procedure_of x) sites

module _ (shape : Shape) (well : IsWellFormed shape) where
  -- a valid path goes on by a step, by a call, and by a return where its procedure is called from a point with a path
  path_by_step : (x y : ℕ) → IsEdge shape (Step x y) → HasPath shape x → HasPath shape y
  path_by_step x y edge has =
      let (front, back, same, entering, from_entry) = valid_split shape has.0 x well has.1 in (
        front ++ (back ++ Step x y ∷ []),
        valid_join shape front _ y (subst (IsEnteringPath shape front) (well.step_inside x y edge) entering)
            (steps_join shape back x y well edge from_entry),
      )

  path_by_call : (site x y : ℕ) → IsEdge shape (Call site x y) → HasPath shape x → HasPath shape y
  path_by_call site x y edge has =
      let target = well.call_to_entry site x y edge in
      let call : IsEdge shape (Call site x (shape.entry (shape.procedure_of y))) = subst (λ n. IsEdge shape (Call site x n)) target.1 edge in
      subst (HasPath shape) (sym target.1) (_, (calls_enter shape has.0 site x (shape.procedure_of y) call has.1).0)

  path_by_return : (site u z x y : ℕ) → IsEdge shape (Ret site u z) → IsEdge shape (Call site x y) → shape.procedure_of y ≡ shape.procedure_of u
      → HasPath shape u → HasPath shape x → HasPath shape z
  path_by_return site u z x y edge call inside has_u has_x =
      let exit = well.return_from_exit site u z edge in
      let p = shape.procedure_of u in
      let called : IsEdge shape (Call site x (shape.entry p)) =
      subst (λ n. IsEdge shape (Call site x n)) ((well.call_to_entry site x y call).1 ∙ ap shape.entry inside) call in
      let returned : IsEdge shape (Ret site (shape.exit p) z) = subst (λ n. IsEdge shape (Ret site n z)) exit.1 edge in
      let (into, inner, same_u, entering_u, from_entry_u) = valid_split shape has_u.0 u well has_u.1 in
      let (front, back, same_x, entering, from_entry) = valid_split shape has_x.0 x well has_x.1 in
      let through : IsPathFromEntry shape inner (shape.exit p) = subst (IsPathFromEntry shape inner) exit.1 from_entry_u in (
        front ++ _,
        valid_join shape front _ z (subst (IsEnteringPath shape front) (well.site_inside site x _ _ z called returned) entering)
            (callee_paths_join shape back inner site x p z well exit.0 called returned from_entry through),
      )

  next_sound : (found : ℕ → Bool) → ((y : ℕ) → found y ≡ true → HasPath shape y) → (z : ℕ) → is_next shape found z ≡ true → HasPath shape z
  next_sound found known z next = go (or_cases (nat_eq (root shape) z) _ next)
    where
      by_edge : (edge : Edge) → IsEdge shape edge → leads_on shape found z edge ≡ true → HasPath shape z
      by_edge (Step x y) at passes =
          let (same, has) = and_parts (nat_eq y z) (found x) passes in
          subst (HasPath shape) (eqb-true y z same) (path_by_step x y at (known x has))
      by_edge (Call site x y) at passes =
          let (same, has) = and_parts (nat_eq y z) (found x) passes in
          subst (HasPath shape) (eqb-true y z same) (path_by_call site x y at (known x has))
      by_edge (Ret site u y) at passes =
          let (same, rest) = and_parts (nat_eq y z) _ passes in
          let (has, called) = and_parts (found u) _ rest in
          let (call, at_call, is_call) = any_contains (calls_found shape found site (shape.procedure_of u)) shape.edges called in
          subst (HasPath shape) (eqb-true y z same) (returned call at_call is_call has)
        where
          returned : (call : Edge) → IsEdge shape call → calls_found shape found site (shape.procedure_of u) call ≡ true → found u ≡ true
              → HasPath shape y
          returned (Step i j) at_call is_call has = absurd (cc is_call)
          returned (Ret other i j) at_call is_call has = absurd (cc is_call)
          returned (Call other i j) at_call is_call has =
              let (which, has_i) = and_parts (nat_eq other site && nat_eq (shape.procedure_of j) (shape.procedure_of u)) (found i) is_call in
              let (same_site, same_procedure) = and_parts (nat_eq other site) (nat_eq (shape.procedure_of j) (shape.procedure_of u)) which in
              path_by_return site u y i j at (subst (λ n. IsEdge shape (Call n i j)) (eqb-true other site same_site) at_call)
              (eqb-true (shape.procedure_of j) (shape.procedure_of u) same_procedure) (known u has) (known i has_i)

      go : (nat_eq (root shape) z ≡ true) ⊎ (list_any (leads_on shape found z) shape.edges ≡ true) → HasPath shape z
      go (inl same) = subst (HasPath shape) (eqb-true (root shape) z same) ([], (refl, refl))
      go (inr any) =
          let (edge, at, passes) = any_contains (leads_on shape found z) shape.edges any in
          by_edge edge at passes

  module _ (found : ℕ → Bool) (closed : (z : ℕ) → is_next shape found z ≡ true → found z ≡ true) where
    next_by : (edge : Edge) (z : ℕ) → IsEdge shape edge → leads_on shape found z edge ≡ true → found z ≡ true
    next_by edge z at passes = closed z (or_right (nat_eq (root shape) z) _ (contains_any (leads_on shape found z) shape.edges edge at passes))

    found_after : (path : List Edge) (x y : ℕ) (sites after : List ℕ) → IsPath shape x path y → open_sites_after path (Some sites) ≡ Some after
        → found x ≡ true → Came shape found (shape.procedure_of x) sites → found y ≡ true
    found_after [] x y sites after is_path opens has came = subst (λ n. found n ≡ true) is_path has
    found_after (Step i j ∷ path) x y sites after is_path opens has came =
        let has_i : found i ≡ true = subst (λ n. found n ≡ true) (sym is_path.1) has in
        found_after path j y sites after is_path.2 opens (next_by (Step i j) j is_path.0 (and_from _ _ (nat_eq_same j) has_i))
        (subst (λ p. Came shape found p sites) (sym (ap shape.procedure_of is_path.1) ∙ well.step_inside i j is_path.0) came)
    found_after (Call site i j ∷ path) x y sites after is_path opens has came =
        let has_i : found i ≡ true = subst (λ n. found n ≡ true) (sym is_path.1) has in
        found_after path j y (site ∷ sites) after is_path.2 opens (next_by (Call site i j) j is_path.0 (and_from _ _ (nat_eq_same j) has_i))
        (i, j, is_path.0, refl, has_i, subst (λ p. Came shape found p sites) (sym (ap shape.procedure_of is_path.1)) came)
    found_after (Ret site i j ∷ path) x y [] after is_path opens has came = absurd (cc (opens, open_sites_after-none path))
    found_after (Ret site i j ∷ path) x y (latest ∷ sites) after is_path opens has came =
        let (same, rest) = same_site site latest path sites after opens in
        let (u, v, at_latest, inside, has_u, outer) = came in
        let has_i : found i ≡ true = subst (λ n. found n ≡ true) (sym is_path.1) has in
        let call : IsEdge shape (Call site u v) = subst (λ n. IsEdge shape (Call n u v)) (sym same) at_latest in
        let callee : shape.procedure_of v ≡ shape.procedure_of i = inside ∙ sym (ap shape.procedure_of is_path.1) in
        let called = contains_any (calls_found shape found site (shape.procedure_of i)) shape.edges (Call site u v) call
        (and_from _ _ (and_from _ _ (nat_eq_same site) (ap (λ n. nat_eq n (shape.procedure_of i)) callee ∙ nat_eq_same (shape.procedure_of i)))
        has_u) in
        found_after path j y sites after is_path.2 rest
        (next_by (Ret site i j) j is_path.0 (and_from _ _ (nat_eq_same j) (and_from _ _ has_i called)))
        (subst (λ p. Came shape found p sites) (well.site_inside site u v i j call is_path.0) outer)

    all_found : (x : ℕ) → HasPath shape x → found x ≡ true
    all_found x has =
        let (sites, opens) = some_sites _ has.1.1 in
        found_after has.0 (root shape) x [] sites has.1.0 opens (closed (root shape) (or_left _ _ (nat_eq_same (root shape)))) refl

  abbrev candidates : List ℕ
  candidates = root shape ∷ map target_of shape.edges

  next_within : (found : ℕ → Bool) (z : ℕ) → is_next shape found z ≡ true → is_one_of candidates z ≡ true
  next_within found z next = go (or_cases (nat_eq (root shape) z) _ next)
    where
      ends_at : (edge : Edge) → leads_on shape found z edge ≡ true → target_of edge ≡ z
      ends_at (Step x y) passes = eqb-true y z (and_parts (nat_eq y z) _ passes).0
      ends_at (Call site x y) passes = eqb-true y z (and_parts (nat_eq y z) _ passes).0
      ends_at (Ret site x y) passes = eqb-true y z (and_parts (nat_eq y z) _ passes).0

      go : (nat_eq (root shape) z ≡ true) ⊎ (list_any (leads_on shape found z) shape.edges ≡ true) → is_one_of candidates z ≡ true
      go (inl same) = subst (λ n. is_one_of candidates n ≡ true) (eqb-true (root shape) z same) (or_left _ _ (nat_eq_same (root shape)))
      go (inr any) =
          let (edge, at, passes) = any_contains (leads_on shape found z) shape.edges any in
          subst (λ n. is_one_of candidates n ≡ true) (ends_at edge passes)
          (or_right (nat_eq (target_of edge) (root shape)) _ (contains_any (nat_eq (target_of edge)) (map target_of shape.edges) (target_of edge)
          (Contains-map target_of shape.edges edge at) (nat_eq_same (target_of edge))))

  pub has_path_decided : (x : ℕ) → HasPath shape x ⊎ (¬ (HasPath shape x))
  has_path_decided x = decided (least_test (HasPath shape) (is_next shape) candidates next_sound all_found next_within) x

pub has_backward_decided : (shape : Shape) → IsWellFormed shape → (x : ℕ) → HasBackwardPath shape x ⊎ (¬ (HasBackwardPath shape x))
has_backward_decided shape well x = go (has_path_decided (reversed_shape shape) (reversed_is_well_formed shape well) x)
  where
    go : HasPath (reversed_shape shape) x ⊎ (¬ (HasPath (reversed_shape shape) x)) → HasBackwardPath shape x ⊎ (¬ (HasBackwardPath shape x))
    go (inl has) = inl (reversed_path has.0, valid_back shape has.0 x has.1)
    go (inr none) = inr (λ has. none (reversed_path has.0, valid_reversed shape has.0 x has.1))

pub undoubted_finishes : UndoubtedFinishes
undoubted_finishes shape point well undoubted path ahead is_path = go (has_backward_decided shape well ahead)
  where
    go : HasBackwardPath shape ahead ⊎ (¬ (HasBackwardPath shape ahead)) → HasBackwardPath shape ahead
    go (inl has) = has
    go (inr none) = absurd (undoubted (path, ahead, is_path, none))

pub undoubted_runs_extend : UndoubtedRunsExtend
undoubted_runs_extend shape start finish run well returns undoubted is_run =
    runs_extend shape start finish run well returns (undoubted_finishes shape start well undoubted) is_run
