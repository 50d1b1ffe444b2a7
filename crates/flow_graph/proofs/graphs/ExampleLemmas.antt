-- Tests by which the worked examples compute
use Rattle.std.proofs.Common.{◌≡◌, ℕ, zero, suc, ◌<◌, nat_lt, Bool, true, false, not, ◌&&◌, ◌||◌, nat_eq, List, [], ◌∷◌, refl, arith}
use Rattle.std.specs.List.{list_any, list_all}
use Rattle.std.proofs.lemmas.Map.Views.{Contains-from_any}
use Rattle.std.proofs.lemmas.List.Sums.{AllPass-from_list_all}
use Rattle.std.proofs.lemmas.List.Elements.{All-contains}
use Rattle.std.proofs.lemmas.Bool.{eqb-true, and_parts, ltb-true, not-true}
use Rattle.flow_graph.specs.Paths.{Edge, Step, Call, Ret, source_of, target_of, Shape, Transfer, IsEdge, final, IsPath, value_across, value_before}
use Rattle.flow_graph.specs.Paths.{HasBackwardPath, SomeBackwardPathHas}
use Rattle.flow_graph.specs.WellFormed.{IsWellFormed}
use Rattle.flow_graph.specs.Runs.{IsDoubtful, CallsReturn}
use Rattle.flow_graph.proofs.paths.PathLemmas.{nat_eq_same}

abbrev edge_eq : Edge → Edge → Bool
edge_eq (Step x y) (Step u v) = nat_eq x u && nat_eq y v
edge_eq (Call c x y) (Call d u v) = nat_eq c d && (nat_eq x u && nat_eq y v)
edge_eq (Ret c x y) (Ret d u v) = nat_eq c d && (nat_eq x u && nat_eq y v)
edge_eq e f = false

edge_eq_is : (e f : Edge) → edge_eq e f ≡ true → e ≡ f
edge_eq_is (Step x y) (Step u v) same =
    let (first, second) = and_parts (nat_eq x u) (nat_eq y v) same in
    rw (eqb-true x u first, eqb-true y v second)
edge_eq_is (Call c x y) (Call d u v) same =
    let (sites, ends) = and_parts (nat_eq c d) _ same in
    let (first, second) = and_parts (nat_eq x u) (nat_eq y v) ends in
    rw (eqb-true c d sites, eqb-true x u first, eqb-true y v second)
edge_eq_is (Ret c x y) (Ret d u v) same =
    let (sites, ends) = and_parts (nat_eq c d) _ same in
    let (first, second) = and_parts (nat_eq x u) (nat_eq y v) ends in
    rw (eqb-true c d sites, eqb-true x u first, eqb-true y v second)
edge_eq_is (Step x y) (Call d u v) same = absurd (cc same)
edge_eq_is (Step x y) (Ret d u v) same = absurd (cc same)
edge_eq_is (Call c x y) (Step u v) same = absurd (cc same)
edge_eq_is (Call c x y) (Ret d u v) same = absurd (cc same)
edge_eq_is (Ret c x y) (Step u v) same = absurd (cc same)
edge_eq_is (Ret c x y) (Call d u v) same = absurd (cc same)

abbrev pub is_edge : Shape → Edge → Bool
is_edge shape edge = list_any (edge_eq edge) shape.edges

pub edge_is : (shape : Shape) (edge : Edge) → is_edge shape edge ≡ true → IsEdge shape edge
edge_is shape edge found = Contains-from_any edge_eq_is edge shape.edges found

abbrev pub passes_path : Shape → ℕ → List Edge → ℕ → Bool
passes_path shape x [] y = nat_eq x y
passes_path shape x (edge ∷ path) y = is_edge shape edge && (nat_eq (source_of edge) x && passes_path shape (target_of edge) path y)

pub path_is : (shape : Shape) (x : ℕ) (path : List Edge) (y : ℕ) → passes_path shape x path y ≡ true → IsPath shape x path y
path_is shape x [] y same = eqb-true x y same
path_is shape x (edge ∷ path) y passes =
    let (found, rest) = and_parts (is_edge shape edge) _ passes in
    let (from, along) = and_parts (nat_eq (source_of edge) x) _ rest in
    (edge_is shape edge found, eqb-true _ _ from, path_is shape (target_of edge) path y along)

pub edges_pass : (shape : Shape) (test : Edge → Bool) → list_all test shape.edges ≡ true → (edge : Edge) → IsEdge shape edge → test edge ≡ true
edges_pass shape test all edge is_edge = All-contains (λ e. test e ≡ true) shape.edges edge (AllPass-from_list_all test shape.edges all) is_edge

abbrev pub is_one_of : List ℕ → ℕ → Bool
is_one_of points x = list_any (nat_eq x) points

-- whether an edge that begins at one of these points ends at one of them
abbrev pub stays_inside : List ℕ → Edge → Bool
stays_inside points edge = not (is_one_of points (source_of edge)) || is_one_of points (target_of edge)

if_passes : (a b : Bool) → a ≡ true → (not a || b) ≡ true → b ≡ true
if_passes true b is_same passes = passes
if_passes false b is_same passes = absurd (cc is_same)

pub path_inside : (shape : Shape) (points : List ℕ) → list_all (stays_inside points) shape.edges ≡ true → (path : List Edge) (x y : ℕ)
    → IsPath shape x path y
    → is_one_of points x ≡ true → is_one_of points y ≡ true
path_inside shape points all [] x y is_path inside = rw is_path at inside
path_inside shape points all (edge ∷ path) x y is_path inside =
    path_inside shape points all path (target_of edge) y is_path.2
    (if_passes (is_one_of points (source_of edge)) (is_one_of points (target_of edge)) (rw is_path.1 inside)
    (edges_pass shape (stays_inside points) all edge is_path.0))

pub no_backward_path : (shape : Shape) (points : List ℕ) → list_all (stays_inside points) shape.edges ≡ true → is_one_of points (final shape) ≡ false
    → (x : ℕ) → is_one_of points x ≡ true → ¬ (HasBackwardPath shape x)
no_backward_path shape points all outside x inside has =
    let reached : is_one_of points (final shape) ≡ true = path_inside shape points all has.0 x (final shape) has.1.0 inside in
    cc (outside, reached)

-- whether an edge that begins at one of these points makes nothing live, and ends at one of them or of the dead ends
abbrev pub makes_nothing : Transfer → List ℕ → List ℕ → Edge → Bool
makes_nothing transfer points ends edge = not (is_one_of points (source_of edge))
    || (not (value_across transfer edge false) && (is_one_of points (target_of edge) || is_one_of ends (target_of edge)))

pub never_live : (shape : Shape) (transfer : Transfer) (points ends : List ℕ) → list_all (makes_nothing transfer points ends) shape.edges ≡ true
    → list_all (stays_inside ends) shape.edges ≡ true → is_one_of ends (final shape) ≡ false → transfer.boundary ≡ false
    → (x : ℕ) → is_one_of points x ≡ true → ¬ (SomeBackwardPathHas shape transfer x)
never_live shape transfer points ends all stuck outside none x inside some =
    let lacks : value_before transfer some.0 transfer.boundary ≡ false = dead some.0 x some.1.0 inside in
    cc (lacks, some.2)
  where
    across : (edge : Edge) (value : Bool) → value ≡ false → not (value_across transfer edge false) ≡ true → value_across transfer edge value ≡ false
    across edge value lacks makes_none = rw lacks (not-true (value_across transfer edge false) makes_none)

    dead : (path : List Edge) (x : ℕ) → IsPath shape x path (final shape) → is_one_of points x ≡ true
        → value_before transfer path transfer.boundary ≡ false
    dead [] x is_path inside = none
    dead (edge ∷ path) x is_path inside =
        go (is_one_of points (source_of edge)) (is_one_of points (target_of edge)) (is_one_of ends (target_of edge)) (rw is_path.1 inside) refl refl
        (edges_pass shape (makes_nothing transfer points ends) all edge is_path.0) (λ ahead. dead path (target_of edge) is_path.2 ahead)
      where
        go : (from into stops : Bool) → from ≡ true → is_one_of points (target_of edge) ≡ into → is_one_of ends (target_of edge) ≡ stops
            → (not from || (not (value_across transfer edge false) && (into || stops))) ≡ true
            → (is_one_of points (target_of edge) ≡ true → value_before transfer path transfer.boundary ≡ false)
            → value_across transfer edge (value_before transfer path transfer.boundary) ≡ false
        go false into stops is_from is_into is_stop passes ahead = absurd (cc is_from)
        go true true stops is_from is_into is_stop passes ahead = across edge _ (ahead is_into) (and_parts _ _ passes).0
        go true false true is_from is_into is_stop passes ahead =
            let at_end : is_one_of ends (final shape) ≡ true = path_inside shape ends stuck path (target_of edge) (final shape) is_path.2 is_stop in
            absurd (cc (at_end, outside))
        go true false false is_from is_into is_stop passes ahead = absurd (cc ((and_parts (not (value_across transfer edge false)) false passes).1))

abbrev pub Each : (ℕ → Type 0) → List ℕ → Type 0
Each P [] = Unit {0}
Each P (x ∷ xs) = P x × Each P xs

each : (P : ℕ → Type 0) (points : List ℕ) → Each P points → (y : ℕ) → is_one_of points y ≡ true → P y
each P [] all y inside = absurd (cc inside)
each P (x ∷ points) all y inside = go (nat_eq y x) refl inside (λ later. each P points all.1 y later)
  where
    go : (same : Bool) → nat_eq y x ≡ same → (same || is_one_of points y) ≡ true → (is_one_of points y ≡ true → P y) → P y
    go true same passes others = rw (eqb-true y x same) all.0
    go false same passes others = others passes

pub not_doubtful : (shape : Shape) (points : List ℕ) → list_all (stays_inside points) shape.edges ≡ true → Each (HasBackwardPath shape) points
    → (x : ℕ) → is_one_of points x ≡ true → ¬ (IsDoubtful shape x)
not_doubtful shape points all has x inside doubtful =
    let (path, ahead, is_path, none) = doubtful in
    none (each (HasBackwardPath shape) points has ahead (path_inside shape points all path x ahead is_path inside))

abbrev pub returns_as : Shape → (ℕ → ℕ) → Edge → Bool
returns_as shape end_of (Step x y) = true
returns_as shape end_of (Call site x y) = is_edge shape (Ret site (shape.exit (shape.procedure_of y)) (end_of site))
returns_as shape end_of (Ret site x y) = true

pub calls_return_as : (shape : Shape) (end_of : ℕ → ℕ) → list_all (returns_as shape end_of) shape.edges ≡ true → CallsReturn shape
calls_return_as shape end_of all site x y edge = (end_of site, edge_is shape _ (edges_pass shape (returns_as shape end_of) all (Call site x y) edge))

-- whether a test passes at each number below a bound
abbrev pub all_below : ℕ → (ℕ → Bool) → Bool
all_below zero test = true
all_below (suc n) test = test n && all_below n test

pub below : (n : ℕ) (test : ℕ → Bool) → all_below n test ≡ true → (k : ℕ) → k < n → test k ≡ true
below zero test all k in_range = absurd (omega arith)
below (suc n) test all k in_range = go (nat_eq k n) refl (λ later. below n test (and_parts (test n) _ all).1 k later)
  where
    go : (same : Bool) → nat_eq k n ≡ same → (k < n → test k ≡ true) → test k ≡ true
    go true same others = rw (eqb-true k n same) (and_parts (test n) _ all).0
    go false same others = others (grind arith)

-- whether a return of a site ends in the procedure of its call
abbrev pub fits_call : Shape → ℕ → ℕ → Edge → Bool
fits_call shape site x (Step u z) = true
fits_call shape site x (Call other u z) = true
fits_call shape site x (Ret other u z) = not (nat_eq other site) || nat_eq (shape.procedure_of x) (shape.procedure_of z)

-- whether an edge of a well-formed shape may be there, beside the shape's other edges
abbrev pub fits : Shape → Edge → Bool
fits shape (Step x y) = nat_eq (shape.procedure_of x) (shape.procedure_of y)
fits shape (Call site x y) =
    nat_lt (shape.procedure_of y) shape.procedures && (nat_eq y (shape.entry (shape.procedure_of y)) && list_all (fits_call shape site x) shape.edges)
fits shape (Ret site x y) = nat_lt (shape.procedure_of x) shape.procedures && nat_eq x (shape.exit (shape.procedure_of x))

abbrev pub passes_well_formed : Shape → Bool
passes_well_formed shape =
    nat_lt shape.root_procedure shape.procedures
    && (all_below shape.procedures (λ p. nat_eq (shape.procedure_of (shape.entry p)) p)
    && (all_below shape.procedures (λ p. nat_eq (shape.procedure_of (shape.exit p)) p)
    && list_all (fits shape) shape.edges))

pub well_formed_is : (shape : Shape) → passes_well_formed shape ≡ true → IsWellFormed shape
well_formed_is shape passes =
    let (root, rest) = and_parts (nat_lt shape.root_procedure shape.procedures) _ passes in
    let (entries, rest) = and_parts (all_below shape.procedures (λ p. nat_eq (shape.procedure_of (shape.entry p)) p)) _ rest in
    let (exits, edges) = and_parts (all_below shape.procedures (λ p. nat_eq (shape.procedure_of (shape.exit p)) p)) _ rest in
    let at = edges_pass shape (fits shape) edges in
    record {
      root_in_range = ltb-true _ _ root;
      entry_inside = λ p in_range. eqb-true _ _ (below shape.procedures (λ q. nat_eq (shape.procedure_of (shape.entry q)) q) entries p in_range);
      exit_inside = λ p in_range. eqb-true _ _ (below shape.procedures (λ q. nat_eq (shape.procedure_of (shape.exit q)) q) exits p in_range);
      step_inside = λ x y edge. eqb-true _ _ (at (Step x y) edge);
      call_to_entry = λ site x y edge.
          let (in_range, rest) = and_parts (nat_lt (shape.procedure_of y) shape.procedures) _ (at (Call site x y) edge) in
          (ltb-true _ _ in_range, eqb-true _ _ (and_parts (nat_eq y (shape.entry (shape.procedure_of y))) _ rest).0);
      return_from_exit = λ site x y edge.
          let (in_range, rest) = and_parts (nat_lt (shape.procedure_of x) shape.procedures) _ (at (Ret site x y) edge) in
          (ltb-true _ _ in_range, eqb-true _ _ rest);
      site_inside = λ site x y u z call return.
          let (in_range, rest) = and_parts (nat_lt (shape.procedure_of y) shape.procedures) _ (at (Call site x y) call) in
          let returns = (and_parts (nat_eq y (shape.entry (shape.procedure_of y))) _ rest).1 in
          eqb-true _ _ (if_passes (nat_eq site site) (nat_eq (shape.procedure_of x) (shape.procedure_of z)) (nat_eq_same site)
          (edges_pass shape (fits_call shape site x) returns (Ret site u z) return));
    }
