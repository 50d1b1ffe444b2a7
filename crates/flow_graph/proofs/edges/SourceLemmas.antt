-- The points from which an edge leads to a point
use Rattle.std.proofs.Common.{◌≡◌, ℕ, suc, ◌+◌, ◌<◌, Bool, true, false, List, [], ◌∷◌, ◌++◌, length, flat_map, get_or, fold, All, Contains}
use Rattle.std.proofs.Common.{nat_eq, if◌then◌else◌, refl, sym, ap, ◌∙◌, subst, append_assoc, append-nil, arith, length-set}
use Rattle.std.specs.List.{range_with_len}
use Rattle.std.proofs.lemmas.List.{get_or_default}
use Rattle.tac_program.specs.Programs.{Program}
use Rattle.tac_program.specs.Sound.{IsSound}
use Rattle.flow_graph.specs.Edges.{edges, edges_from}
use Rattle.flow_graph.specs.code.Searching.{sources_among, sources_of}
use Rattle.flow_graph.specs.code.NumberLists.{with_last, AreLists}
use Rattle.flow_graph.specs.Paths.{Edge, source_of, target_of}
use Rattle.flow_graph.specs.Points.{points, point_count}
use Rattle.flow_graph.proofs.edges.EdgeLemmas.{edges_from_are, edges_are, leaves, source_is}
use Rattle.flow_graph.proofs.graphs.GraphLaws.{edges_join_points}
use Rattle.flow_graph.proofs.lists.Membership.{Contains-first, Contains-nil, Contains-one, Contains-in_flat_map, Contains-flat_map, Contains-in_range}
use Rattle.flow_graph.proofs.lists.Membership.{Contains-range}
use Rattle.flow_graph.proofs.lists.NumberListLemmas.{put_lists}
use Rattle.flow_graph.proofs.lists.Ranges.{flat_map-range_more}

-- there are as many lists
pub length-put_sources : (lists : List (List ℕ)) (x : ℕ) (among : List Edge)
    → length (fold (λ known edge. with_last known (target_of edge) x) lists among) ≡ length lists
length-put_sources lists x [] = refl
length-put_sources lists x (edge ∷ among) = length-put_sources (with_last lists (target_of edge) x) x among ∙ length-set lists (target_of edge) _

-- a source put last for each of some edges
pub put_sources : (lists : List (List ℕ)) (many : ℕ) (list_of : ℕ → List ℕ) (x : ℕ) (among : List Edge) → AreLists lists many list_of
    → All (λ edge. target_of edge < many) among
    → AreLists (fold (λ known edge. with_last known (target_of edge) x) lists among) many (λ k. list_of k ++ sources_among among x k)
put_sources lists many list_of x [] are inside = record { count = are.count; each = λ k d below. are.each k d below ∙ sym (append-nil (list_of k)) }
put_sources lists many list_of x (edge ∷ among) are inside =
    let first : AreLists (with_last lists (target_of edge) x) many (λ k. list_of k ++ (if nat_eq k (target_of edge) then x ∷ [] else [])) =
    put_lists lists many list_of (target_of edge) x are (inside 0 edge (omega arith)) in
    let rest =
    put_sources (with_last lists (target_of edge) x) many (λ k. list_of k ++ (if nat_eq k (target_of edge) then x ∷ [] else [])) x among first
    (λ k d below. inside (suc k) d (omega arith)) in
    record {
      count = rest.count;
      each = λ k d below. rest.each k d below ∙ append_assoc (list_of k) (if nat_eq k (target_of edge) then x ∷ [] else []) (sources_among among x k);
    }

-- the sources among the points before one
abbrev pub sources_before : Program → ℕ → ℕ → List ℕ
sources_before program point target = flat_map (λ source. sources_among (edges_from program source) source target) (range_with_len 0 point)

-- an edge leads from one point to another
abbrev pub HasEdge : Program → ℕ → ℕ → Type 0
HasEdge program x y = (edge : Edge) × Contains (edges program) edge × (source_of edge ≡ x) × (target_of edge ≡ y)

-- the edges out of a point lead to points
pub targets_are_points : (program : Program) → IsSound program → (point : ℕ) → point < point_count program
    → All (λ edge. target_of edge < point_count program) (edges_from program point)
targets_are_points program sound point below k d inside =
    let among : Contains (edges_from program point) (get_or (edges_from program point) k d) =
    (k, inside, get_or_default (edges_from program point) k _ d inside) in
    (edges_join_points program sound (get_or (edges_from program point) k d)
    (leaves program point (get_or (edges_from program point) k d) below among)).target

pub one_point_more : (program : Program) (point : ℕ) (old new : List (List ℕ)) → IsSound program → point < point_count program
    → AreLists old (point_count program) (sources_before program point)
    → new ≡ fold (λ known edge. with_last known (target_of edge) point) old (edges_from program point)
    → AreLists new (point_count program) (sources_before program (point + 1))
one_point_more program point old new sound below are is =
    let put = put_sources old (point_count program) (sources_before program point) point (edges_from program point) are
    (targets_are_points program sound point below) in
    record {
      count = ap length is ∙ put.count;
      each = λ k d inside.
          ap (λ lists. get_or lists k d) is ∙ put.each k d inside
          ∙ sym (flat_map-range_more (λ source. sources_among (edges_from program source) source k) point);
    }

source_among : (x y z : ℕ) (edge : Edge) → Contains (if nat_eq y (target_of edge) then z ∷ [] else []) x → (x ≡ z) × (target_of edge ≡ y)
source_among x y z edge at = by_test (nat_eq y (target_of edge)) refl at
  where
    by_test : (b : Bool) → nat_eq y (target_of edge) ≡ b → Contains (if b then z ∷ [] else []) x → (x ≡ z) × (target_of edge ≡ y)
    by_test true test at = (Contains-one z x at, grind arith)
    by_test false test at = absurd (Contains-nil x at)

-- what stands in the list of a point
pub sources_have_edges : (program : Program) → IsSound program → (x y : ℕ) → Contains (sources_of program y) x
    → (x < point_count program) × HasEdge program x y
sources_have_edges program sound x y at =
    let (z, among, here) = Contains-in_flat_map (λ source. sources_among (edges_from program source) source y) (points program) x at in
    let (low, high) = Contains-in_range 0 (point_count program) z among in
    let (edge, leaving, last) = Contains-in_flat_map (λ edge. if nat_eq y (target_of edge) then z ∷ [] else []) (edges_from program z) x here in
    let (same, leads) = source_among x y z edge last in
    let below : z < point_count program = omega (arith, high) in
    let source : source_of edge ≡ z = source_is program z edge (edges_from_are program sound z edge below leaving) in
    (omega (arith, same, below), (edge, leaves program z edge below leaving, source ∙ sym same, leads))

pub edges_have_sources : (program : Program) → IsSound program → (x y : ℕ) → HasEdge program x y → Contains (sources_of program y) x
edges_have_sources program sound x y (edge, at, from, to) =
    let (point, below, here, is) = edges_are program sound edge at in
    let same : point ≡ x = sym (source_is program point edge is) ∙ from in
    let test : nat_eq y (target_of edge) ≡ true = grind arith in
    let last : Contains (if nat_eq y (target_of edge) then point ∷ [] else []) point =
    subst (λ b. Contains (if b then point ∷ [] else []) point) (sym test) (Contains-first point []) in
    subst (Contains (sources_of program y)) same
    (Contains-flat_map (λ source. sources_among (edges_from program source) source y) (points program) point point
    (Contains-range 0 (point_count program) point (omega arith) (omega (arith, below)))
    (Contains-flat_map (λ edge. if nat_eq y (target_of edge) then point ∷ [] else []) (edges_from program point) edge point here last))
