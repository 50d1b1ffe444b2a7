-- Uses and paths by their numbers
use Rattle.std.proofs.Common.{◌≡◌, ◌∙◌, ℕ, ◌+◌, ◌-◌, ◌<◌, ◌≤◌, Bool, true, false, List, [], ◌∷◌, ◌++◌, length, map, get_or, nat_eq, slice_index}
use Rattle.std.proofs.Common.{if◌then◌else◌, refl, sym, ap, subst, take, arith}
use Rattle.std.specs.Prelude.{All, Contains}
use Rattle.std.proofs.lemmas.List.{get_or-map, length-map, map-append, take_more}
use Rattle.std.proofs.lemmas.List.{get_or_default}
use Rattle.std.proofs.lemmas.List.Elements.{All-contains, All-from_get_or, All-get_or, All-head, All-tail}
use Rattle.std.proofs.lemmas.Map.Made.{Contains-tail}
use Rattle.std.proofs.lemmas.Bool.{eq-eqb, eqb-false, eqb-true, ne_eqb}
use Rattle.flow_graph.specs.Analyses.{shape_of, transfer_of}
use Rattle.flow_graph.specs.Points.{point_count}
use Rattle.flow_graph.specs.declared.analysis.Analysis.TheVariants.{Reach}
use Rattle.flow_reports.specs.declared.unset.UnsetUse.{UnsetUse}
use Rattle.flow_why.specs.Witnesses.{IsWitness}
use Rattle.flow_why.specs.declared.hop.Hop.{Hop}
use Rattle.tac_program.specs.Programs.{Program}
use Rattle.worklist.specs.Groups.{AreGroups}
use Rattle.flow_paths.specs.code.UnsetPaths.{ArePathsOf, IsByPoint, IsWitnessed, PathTable, between, hops_among, hops_at, hops_in, numbers_of, use_at}
use Rattle.flow_paths.specs.code.UnsetPaths.{use_of, uses_in}
use Rattle.flow_paths.specs.declared.unset_path.UnsetPath.{UnsetPath}
use Rattle.flow_paths.proofs.lists.Between.{among_between, between_first, get_or-between, length-between}

abbrev pub no_use : UnsetUse
no_use = record { point = 0; variable = 0 }

-- what stands at a place of a key is a number of what has that key
pub placed : (uses : List UnsetUse) (key : UnsetUse → ℕ) (count : ℕ) (starts places : List ℕ) (k place : ℕ)
    → AreGroups (map key uses) count starts places → k < count → slice_index starts k ≤ place → place < slice_index starts (k + 1)
    → (slice_index places place < length uses) × (key (use_at uses (slice_index places place)) ≡ k)
placed uses key count starts places k place groups below low high =
    let only = groups.only k place below (record { low = low; high = high }) in
    let within : slice_index places place < length uses = omega (arith, only.0, length-map uses key) in
    (within, sym (get_or-map key uses (slice_index places place) no_use 0 within) ∙ only.1)

-- the places of a key stand within the list
pub place_within : (keys : List ℕ) (count : ℕ) (starts places : List ℕ) (k place : ℕ) → AreGroups keys count starts places → k < count
    → place < slice_index starts (k + 1) → place < length places
place_within keys count starts places k place groups below high = omega (arith, groups.within k below, groups.size, high)

-- each use that is of a key is at one of its places
pub each_placed : (uses : List UnsetUse) (key : UnsetUse → ℕ) (count : ℕ) (starts places : List ℕ) (number : ℕ)
    → AreGroups (map key uses) count starts places → number < length uses
    → (j : ℕ) × (slice_index starts (key (use_at uses number)) ≤ j) × (j < slice_index starts (key (use_at uses number) + 1))
    × (slice_index places j ≡ number)
each_placed uses key count starts places number groups below =
    let at = groups.listed number (omega (arith, below, length-map uses key)) in
    let is : slice_index (map key uses) number ≡ key (use_at uses number) = get_or-map key uses number no_use 0 below in
    let low : slice_index starts (key (use_at uses number)) ≤ at.0 = subst (λ (k : ℕ). slice_index starts k ≤ at.0) is at.1.low in
    let high : at.0 < slice_index starts (key (use_at uses number) + 1) = subst (λ (k : ℕ). at.0 < slice_index starts (k + 1)) is at.1.high in
    (at.0, low, high, at.2)

-- among the mapped
pub contained : {A B : Type 0} (f : A → B) (xs : List A) (x : A) → Contains xs x → Contains (map f xs) (f x)
contained f xs x (k, below, is) =
    let within : k < length (map f xs) = omega (arith, below, length-map xs f) in
    (k, within, get_or-map f xs k x (f x) below ∙ ap f is)

-- the use of a path, by its number
pub use_in : (paths : List UnsetPath) (k : ℕ) (d : UnsetPath) → k < length paths → use_at (uses_in paths) k ≡ use_of (get_or paths k d)
use_in paths k d below = get_or-map use_of paths k d no_use below

pub hops_of : (paths : List UnsetPath) (k : ℕ) (d : UnsetPath) → k < length paths → hops_in paths k ≡ (get_or paths k d).hops.items
hops_of paths k d below = get_or-map (λ path. path.hops.items) paths k d [] below

-- the first of some numbers, and the others
module _ (paths : List UnsetPath) (places : List ℕ) (n b variable : ℕ) (path : UnsetPath) (below : n < b)
    (within : slice_index places n < length paths) (is : path ≡ get_or paths (slice_index places n) path) where
  same_variable : (use_at (uses_in paths) (slice_index places n)).variable ≡ path.variable
  same_variable =
      ap (λ (u : UnsetUse). u.variable) (use_in paths (slice_index places n) path within) ∙ ap (λ (p : UnsetPath). p.variable) (sym is)

  by_first : (t : Bool) → nat_eq (use_at (uses_in paths) (slice_index places n)).variable variable ≡ t
      → hops_among paths (between places n b) variable
      ≡ (if t then hops_in paths (slice_index places n) else hops_among paths (between places (n + 1) b) variable)
  by_first t test =
      ap (λ ns. hops_among paths ns variable) (between_first places n b below)
      ∙ ap (λ (c : Bool). if c then hops_in paths (slice_index places n) else hops_among paths (between places (n + 1) b) variable) test

  pub first_is : path.variable ≡ variable → path.hops.items ≡ hops_among paths (between places n b) variable
  first_is same =
      sym (by_first true (eq-eqb _ _ (same_variable ∙ same)) ∙ hops_of paths (slice_index places n) path within
      ∙ ap (λ (p : UnsetPath). p.hops.items) (sym is))

  pub others_are : (path.variable ≡ variable → ⊥) → hops_among paths (between places n b) variable ≡ hops_among paths (between places (n + 1) b) variable
  others_are other = by_first false (ne_eqb _ _ (λ same. other (sym same_variable ∙ same)))

-- what stands at a place of a point is the number of a path
pub path_there : (table : PathTable) (point place : ℕ) → IsByPoint table → point + 1 < length table.starts → place < slice_index table.starts (point + 1)
    → slice_index table.places place < length table.paths
path_there table point place groups below high =
    let inside : point < length table.starts - 1 = omega (arith, below) in
    let there : place < length table.places = omega (arith, groups.within point inside, groups.size, high) in
    omega (arith, groups.in_range place there, length-map (uses_in table.paths) (λ (one : UnsetUse). one.point), length-map table.paths use_of)

-- the hops of a path are a witness for its use
witnessed_at : (program : Program) (paths : List UnsetPath) (k : ℕ) → All (IsWitnessed program) paths → k < length paths
    → IsWitness (shape_of program) (transfer_of program Reach (use_at (uses_in paths) k).variable) (use_at (uses_in paths) k).point (hops_in paths k)
witnessed_at program [] k all below = absurd (let none : ⊥ = omega (arith, below) in none)
witnessed_at program (d ∷ paths) k all below =
    let is : IsWitnessed program (get_or (d ∷ paths) k d) = All-get_or (IsWitnessed program) (d ∷ paths) k d below all in
    let of : use_of (get_or (d ∷ paths) k d) ≡ use_at (uses_in (d ∷ paths)) k = sym (use_in (d ∷ paths) k d below) in
    let hops : (get_or (d ∷ paths) k d).hops.items ≡ hops_in (d ∷ paths) k = sym (hops_of (d ∷ paths) k d below) in
    subst (λ (hs : List Hop).
    IsWitness (shape_of program) (transfer_of program Reach (use_at (uses_in (d ∷ paths)) k).variable) (use_at (uses_in (d ∷ paths)) k).point hs) hops
    (subst (λ (u : UnsetUse). IsWitness (shape_of program) (transfer_of program Reach u.variable) u.point (get_or (d ∷ paths) k d).hops.items) of is)

module _ (program : Program) (paths : List UnsetPath) (all : All (IsWitnessed program) paths) (point variable m : ℕ)
    (is : use_at (uses_in paths) m ≡ record { point = point; variable = variable }) where
  -- among the paths of a point, one of which is of the variable
  found_among : (numbers : List ℕ) → All (λ k. (k < length paths) × ((use_at (uses_in paths) k).point ≡ point)) numbers → Contains numbers m
      → IsWitness (shape_of program) (transfer_of program Reach variable) point (hops_among paths numbers variable)
  found_among [] each has = absurd (let none : ⊥ = omega (arith, has.1) in none)
  found_among (k ∷ numbers) each has =
      by_test (nat_eq (use_at (uses_in paths) k).variable variable) refl (λ rest. found_among numbers (All-tail (λ j. (j < length paths) × ((use_at (uses_in paths) j).point ≡ point)) k numbers each) rest)
    where
      here : (k < length paths) × ((use_at (uses_in paths) k).point ≡ point)
      here = All-head (λ j. (j < length paths) × ((use_at (uses_in paths) j).point ≡ point)) k numbers each

      by_test : (b : Bool) → nat_eq (use_at (uses_in paths) k).variable variable ≡ b
          → (Contains numbers m → IsWitness (shape_of program) (transfer_of program Reach variable) point (hops_among paths numbers variable))
          → IsWitness (shape_of program) (transfer_of program Reach variable) point
          (if b then hops_in paths k else hops_among paths numbers variable)
      by_test true same further =
          subst (λ (p : ℕ). IsWitness (shape_of program) (transfer_of program Reach variable) p (hops_in paths k)) here.1
          (subst (λ (v : ℕ). IsWitness (shape_of program) (transfer_of program Reach v) (use_at (uses_in paths) k).point (hops_in paths k))
          (eqb-true (use_at (uses_in paths) k).variable variable same) (witnessed_at program paths k all here.0))
      by_test false other further =
          further
          (Contains-tail k numbers m
          (λ (same : k ≡ m). eqb-false (use_at (uses_in paths) k).variable variable other
          (ap (λ (j : ℕ). (use_at (uses_in paths) j).variable) same ∙ ap (λ (u : UnsetUse). u.variable) is))
          has)

-- the numbers of a point are those of its paths
numbers_are : (table : PathTable) (point : ℕ) → IsByPoint table → point < length table.starts - 1
    → All (λ k. (k < length table.paths) × ((use_at (uses_in table.paths) k).point ≡ point)) (numbers_of table.starts table.places point)
numbers_are table point groups below =
    let first : ℕ = slice_index table.starts point in
    let end : ℕ = slice_index table.starts (point + 1) in
    All-from_get_or (λ k. (k < length table.paths) × ((use_at (uses_in table.paths) k).point ≡ point)) (between table.places first end) 0
    (λ i within.
    let inside : i < end - first = omega (arith, within, length-between table.places first end) in
    let at = placed (uses_in table.paths) (λ one. one.point) (length table.starts - 1) table.starts table.places point (first + i) groups below
    (omega arith) (omega (arith, inside)) in
    let there : slice_index table.places (first + i) < length table.paths = omega (arith, at.0, length-map table.paths use_of) in
    subst (λ (k : ℕ). (k < length table.paths) × ((use_at (uses_in table.paths) k).point ≡ point))
    (sym (get_or-between table.places first end i 0 inside)) (there, at.1))

-- A use that has a path is given a witness.
pub witness_found : (program : Program) (uses : List UnsetUse) (table : PathTable) → ArePathsOf program uses table
    → (point variable : ℕ) → point < point_count program → Contains uses (record { point = point; variable = variable })
    → IsWitness (shape_of program) (transfer_of program Reach variable) point (hops_at table point variable)
witness_found program uses table are point variable below has =
    let one : UnsetUse = record { point = point; variable = variable } in
    let kept : Contains (uses_in table.paths) one = All-contains (Contains (uses_in table.paths)) uses one are.complete has in
    let m : ℕ = kept.0 in
    let is : use_at (uses_in table.paths) m ≡ one = get_or_default (uses_in table.paths) m no_use one kept.1 ∙ kept.2 in
    let at = each_placed (uses_in table.paths) (λ one. one.point) (length table.starts - 1) table.starts table.places m are.by_point kept.1 in
    let mine : (use_at (uses_in table.paths) m).point ≡ point = ap (λ (u : UnsetUse). u.point) is in
    let low : slice_index table.starts point ≤ at.0 = subst (λ (p : ℕ). slice_index table.starts p ≤ at.0) mine at.1 in
    let high : at.0 < slice_index table.starts (point + 1) = subst (λ (p : ℕ). at.0 < slice_index table.starts (p + 1)) mine at.2 in
    let among : Contains (numbers_of table.starts table.places point) m =
    subst (λ (k : ℕ). Contains (numbers_of table.starts table.places point) k) at.3
    (among_between table.places (slice_index table.starts point) (slice_index table.starts (point + 1)) at.0 low high) in
    found_among program table.paths are.witnessed point variable m is (numbers_of table.starts table.places point)
    (numbers_are table point are.by_point (omega (arith, below, are.count))) among

-- the points of one path more
pub points_more : (paths : List UnsetPath) (i : ℕ) (path : UnsetPath) → i < length paths → path ≡ get_or paths i path
    → map (λ one. one.point) (uses_in (take i paths)) ++ path.point ∷ [] ≡ map (λ one. one.point) (uses_in (take (i + 1) paths))
points_more paths i path below is =
    let point : UnsetUse → ℕ = λ one. one.point in
    ap (λ (p : UnsetPath). map point (uses_in (take i paths)) ++ p.point ∷ []) is
    ∙ sym (ap (λ (ps : List UnsetPath). map point (uses_in ps)) (take_more paths i path below)
    ∙ ap (map point) (map-append use_of (take i paths) (get_or paths i path ∷ []))
    ∙ map-append point (uses_in (take i paths)) (use_of (get_or paths i path) ∷ []))

-- points of uses are below what each of them is below
pub points_below : (uses : List UnsetUse) (points : List ℕ) (limit count : ℕ) → points ≡ map (λ one. one.point) uses → count ≡ limit
    → All (λ one. one.point < limit) uses → (i : ℕ) → i < length points → slice_index points i < count
points_below uses points limit count are same all i below =
    let point : UnsetUse → ℕ = λ one. one.point in
    let within : i < length uses = omega (arith, below, ap length are, length-map uses point) in
    let is : slice_index points i ≡ (use_at uses i).point = ap (λ (ns : List ℕ). slice_index ns i) are ∙ get_or-map point uses i no_use 0 within in
    let low : (use_at uses i).point < limit = All-get_or (λ (one : UnsetUse). one.point < limit) uses i no_use within all in
    omega (arith, is, low, same)
