-- Tests by which the worked examples compute
use Rattle.std.proofs.Common.{◌≡◌, ℕ, Bool, true, false, not, ◌&&◌, ◌||◌, nat_eq, List, [], ◌∷◌, Some, refl, ap, ◌∙◌}
use Rattle.std.specs.List.{list_all}
use Rattle.std.proofs.lemmas.Bool.{eqb-true, and_parts, and_from}
use Rattle.flow_graph.specs.Paths.{source_of, target_of, Shape, root, IsPath, open_sites_after, HasPath, HasBackwardPath}
use Rattle.flow_graph.specs.declared.edge.Edge.{Edge}
use Rattle.flow_graph.specs.declared.edge.Edge.TheVariants.{Step, Call, Ret}
use Rattle.flow_graph.proofs.graphs.ExampleLemmas.{edges_pass, is_one_of, Each}
use Rattle.flow_graph.proofs.paths.PathLemmas.{open_sites_after-none, some_sites, same_site}
use Rattle.execution_laws.specs.Executions.{IsDoubtfulOnExecutions, IsReachedAlong}

if_passes : (a b : Bool) → a ≡ true → (not a || b) ≡ true → b ≡ true
if_passes true b is_same passes = passes
if_passes false b is_same passes = absurd (cc is_same)

-- whether an edge that begins at one of these points ends at one of them: a call at one of these sites, a return where it
-- goes back to one of them
abbrev pub stays_valid : List ℕ → List ℕ → Edge → Bool
stays_valid points sites (Step x y) = not (is_one_of points x) || is_one_of points y
stays_valid points sites (Call site x y) = not (is_one_of points x) || (is_one_of sites site && is_one_of points y)
stays_valid points sites (Ret site x y) = not (is_one_of points x && is_one_of sites site) || is_one_of points y

valid_inside : (shape : Shape) (points sites : List ℕ) → list_all (stays_valid points sites) shape.edges ≡ true
    → (path : List Edge) (x y : ℕ) (opened after : List ℕ) → IsPath shape x path y → open_sites_after path (Some opened) ≡ Some after
    → is_one_of points x ≡ true → list_all (is_one_of sites) opened ≡ true → is_one_of points y ≡ true
valid_inside shape points sites all [] x y opened after is_path opens inside are_sites = rw is_path at inside
valid_inside shape points sites all (Step i j ∷ path) x y opened after is_path opens inside are_sites =
    let here : is_one_of points i ≡ true = ap (is_one_of points) is_path.1 ∙ inside in
    let there = if_passes _ _ here (edges_pass shape (stays_valid points sites) all (Step i j) is_path.0) in
    valid_inside shape points sites all path j y opened after is_path.2 opens there are_sites
valid_inside shape points sites all (Call site i j ∷ path) x y opened after is_path opens inside are_sites =
    let here : is_one_of points i ≡ true = ap (is_one_of points) is_path.1 ∙ inside in
    let (at_site, there) = and_parts (is_one_of sites site) (is_one_of points j)
    (if_passes _ _ here (edges_pass shape (stays_valid points sites) all (Call site i j) is_path.0)) in
    valid_inside shape points sites all path j y (site ∷ opened) after is_path.2 opens there (and_from _ _ at_site are_sites)
valid_inside shape points sites all (Ret site i j ∷ path) x y [] after is_path opens inside are_sites =
    absurd (cc (opens, open_sites_after-none path))
valid_inside shape points sites all (Ret site i j ∷ path) x y (latest ∷ opened) after is_path opens inside are_sites =
    let (same, rest) = same_site site latest path opened after opens in
    let (at_latest, others) = and_parts (is_one_of sites latest) (list_all (is_one_of sites) opened) are_sites in
    let here : is_one_of points i ≡ true = ap (is_one_of points) is_path.1 ∙ inside in
    let at_site : is_one_of sites site ≡ true = ap (is_one_of sites) same ∙ at_latest in
    let there = if_passes _ _ (and_from _ _ here at_site) (edges_pass shape (stays_valid points sites) all (Ret site i j) is_path.0) in
    valid_inside shape points sites all path j y opened after is_path.2 rest there others

-- each point that is reached is one of these
pub reached_inside : (shape : Shape) (points sites : List ℕ) → list_all (stays_valid points sites) shape.edges ≡ true
    → is_one_of points (root shape) ≡ true → (x : ℕ) → HasPath shape x → is_one_of points x ≡ true
reached_inside shape points sites all at_root x has =
    let (after, opens) = some_sites _ has.1.1 in
    valid_inside shape points sites all has.0 (root shape) x [] after has.1.0 opens at_root refl

pub not_reached : (shape : Shape) (points sites : List ℕ) → list_all (stays_valid points sites) shape.edges ≡ true
    → is_one_of points (root shape) ≡ true → (x : ℕ) → is_one_of points x ≡ false → ¬ (HasPath shape x)
not_reached shape points sites all at_root x outside has =
    let inside = reached_inside shape points sites all at_root x has in
    cc (inside, outside)

-- whether an edge that begins at one of these points and ends at a reached one ends at one of them
abbrev pub stays_among : List ℕ → List ℕ → Edge → Bool
stays_among points reached edge =
    not (is_one_of points (source_of edge) && is_one_of reached (target_of edge)) || is_one_of points (target_of edge)

each : (P : ℕ → Type 0) (points : List ℕ) → Each P points → (y : ℕ) → is_one_of points y ≡ true → P y
each P [] all y inside = absurd (cc inside)
each P (x ∷ points) all y inside = go (nat_eq y x) refl inside (λ later. each P points all.1 y later)
  where
    go : (same : Bool) → nat_eq y x ≡ same → (same || is_one_of points y) ≡ true → (is_one_of points y ≡ true → P y) → P y
    go true same passes others = rw (eqb-true y x same) all.0
    go false same passes others = others passes

first_reached : (shape : Shape) (path : List Edge) (x : ℕ) → IsReachedAlong shape x path → HasPath shape x
first_reached shape [] x reached = reached
first_reached shape (edge ∷ path) x reached = reached.0

module _ (shape : Shape) (reached : List ℕ) (all_reached : (x : ℕ) → HasPath shape x → is_one_of reached x ≡ true) (points : List ℕ) where
  among : list_all (stays_among points reached) shape.edges ≡ true → (path : List Edge) (x y : ℕ) → IsPath shape x path y
      → IsReachedAlong shape x path → is_one_of points x ≡ true → is_one_of points y ≡ true
  among all [] x y is_path along inside = rw is_path at inside
  among all (edge ∷ path) x y is_path along inside =
      let here : is_one_of points (source_of edge) ≡ true = ap (is_one_of points) is_path.1 ∙ inside in
      let ends = all_reached (target_of edge) (first_reached shape path (target_of edge) along.1) in
      among all path (target_of edge) y is_path.2 along.1
      (if_passes _ _ (and_from _ _ here ends) (edges_pass shape (stays_among points reached) all edge is_path.0))

  -- among these points, which reached points lead to none but each other, all can finish
  pub not_doubtful_on_executions : list_all (stays_among points reached) shape.edges ≡ true → Each (HasBackwardPath shape) points
      → (x : ℕ) → is_one_of points x ≡ true → ¬ (IsDoubtfulOnExecutions shape x)
  not_doubtful_on_executions all can x inside doubtful =
      let (path, ahead, is_path, along, none) = doubtful in
      none (each (HasBackwardPath shape) points can ahead (among all path x ahead is_path along inside))
