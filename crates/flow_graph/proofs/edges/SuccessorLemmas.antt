-- The edges out of a point, as the code finds them
use Rattle.std.proofs.Common.{◌≡◌, ℕ, zero, suc, ◌<◌, ◌≤◌, Bool, true, false, List, [], ◌∷◌, ◌++◌, length, map, flat_map, get_or, All, Some, None}
use Rattle.std.proofs.Common.{option_map, slice_get, unwrap_or, if◌then◌else◌, refl, sym, ap, ap₂, ◌∙◌, subst, arith}
use Rattle.std.specs.List.{filter}
use Rattle.std.proofs.lemmas.List.{get_or-map, length-map}
use Rattle.std.proofs.lemmas.List.FromFn.{get_or-range_with_len, length-range_with_len}
use Rattle.std.proofs.lemmas.Option.{slice_get_read}
use Rattle.smallvec.specs.SmallVec.{SmallVec}
use Rattle.tac_program.specs.Programs.{Procedure, Program}
use Rattle.tac_program.specs.declared.program.Stmt.{Stmt}
use Rattle.flow_graph.specs.Edges.{calls, returns_of, edges_from, edges_of}
use Rattle.flow_graph.specs.code.Labels.{labels_at}
use Rattle.flow_graph.specs.code.NumberLists.{contents}
use Rattle.flow_graph.specs.Paths.{Edge, Ret}
use Rattle.flow_graph.specs.Points.{points, procedure_at, end_place, end_point, kind_at, point_count, point_of, statement_at}
use Rattle.flow_graph.specs.ProgramLaws.{IsPlaceOf}
use Rattle.flow_graph.specs.code.Sites.{AreSites, sites_of}
use Rattle.flow_graph.proofs.edges.EdgeLemmas.{at_end}
use Rattle.flow_graph.proofs.places.PointLemmas.{places_have_points, points_have_places}

-- the procedure of a point, as it is read
pub record Reads (program : Program) (point : ℕ) (p : Procedure) : Type 0 where
  pub there : procedure_at program point < length program.procedures
  pub known : slice_get program.procedures (procedure_at program point) ≡ Some p
  pub labels : p.labels ≡ labels_at program point
  pub ends : length p.statements ≡ end_place program (procedure_at program point)

pub reads_procedure : (program : Program) (point n : ℕ) (p : Procedure) → point < point_count program → n ≡ procedure_at program point
    → p ≡ get_or program.procedures n p → Reads program point p
reads_procedure program point n p below is read =
    let place : IsPlaceOf program point = points_have_places program point below in
    let at : p ≡ get_or program.procedures (procedure_at program point) p = read ∙ ap (λ k. get_or program.procedures k p) is in
    let known = slice_get_read program.procedures _ (procedure_at program point) p refl place.procedure at in
    record {
      there = place.procedure;
      known = known;
      labels = sym (ap (λ o. unwrap_or (option_map (λ (p : Procedure). p.labels) o) []) known);
      ends = sym (ap (λ o. length (unwrap_or (option_map (λ (p : Procedure). p.statements) o) [])) known);
    }

-- a return for each site
returns_by_filter : (p : ℕ → Bool) (f : ℕ → Edge) (xs : List ℕ) → flat_map (λ x. if p x then f x ∷ [] else []) xs ≡ map f (filter p xs)
returns_by_filter p f [] = refl
returns_by_filter p f (x ∷ xs) = by_test (p x) (returns_by_filter p f xs)
  where
    by_test : (b : Bool) → flat_map (λ x. if p x then f x ∷ [] else []) xs ≡ map f (filter p xs)
        → (if b then f x ∷ [] else []) ++ flat_map (λ x. if p x then f x ∷ [] else []) xs ≡ map f (if b then x ∷ filter p xs else filter p xs)
    by_test true rest = ap (λ es. f x ∷ es) rest
    by_test false rest = rest

-- the edges out of a procedure's end
pub returns_at_end : (program : Program) (point : ℕ) → point < point_count program → statement_at program point ≡ None
    → map (λ site. Ret site point (suc site)) (sites_of program (procedure_at program point)) ≡ edges_from program point
returns_at_end program point below none =
    let pr : ℕ = procedure_at program point in
    let no_kind : kind_at program point ≡ None = ap (option_map (λ (s : Stmt). s.kind)) none in
    let ends : point ≡ end_point program pr = at_end program point below no_kind in
    ap (λ at. map (λ site. Ret site at (suc site)) (sites_of program pr)) ends
    ∙ sym (returns_by_filter (λ site. calls program site pr) (λ site. Ret site (end_point program pr) (suc site)) (points program))
    ∙ sym (ap (λ k. elim k [ Some k ↦ edges_of program point k | None ↦ returns_of program pr ]) no_kind)

-- the sites are points
filter-All : (p : ℕ → Bool) (n : ℕ) (xs : List ℕ) → All (λ x. x < n) xs → All (λ x. x < n) (filter p xs)
filter-All p n [] all = all
filter-All p n (x ∷ xs) all = by_test (p x) (filter-All p n xs (λ k d below. all (suc k) d (omega arith)))
  where
    by_test : (b : Bool) → All (λ x. x < n) (filter p xs) → All (λ x. x < n) (if b then x ∷ filter p xs else filter p xs)
    by_test true rest zero d below = all 0 d (omega arith)
    by_test true rest (suc k) d below = rest k d (omega arith)
    by_test false rest k d below = rest k d below

pub sites_are_points : (program : Program) (procedure : ℕ) → All (λ site. site < point_count program) (sites_of program procedure)
sites_are_points program procedure =
    filter-All (λ site. calls program site procedure) (point_count program) (points program)
    (λ k d below.
    let inside : k < point_count program = omega (arith, below, length-range_with_len 0 (point_count program)) in
    omega (arith, get_or-range_with_len 0 (point_count program) k d inside))

-- the end of a procedure whose statements are read
pub record Ends (program : Program) (point procedure : ℕ) (statements : List Stmt) : Type 0 where
  pub there : procedure < length program.procedures
  pub few : length statements < point_count program
  pub place : length statements ≤ end_place program procedure
  pub target : point_of program procedure (length statements) ≡ end_point program (procedure_at program point)

pub reads_end : (program : Program) (point procedure : ℕ) (p : Procedure) (statements : List Stmt) → point < point_count program
    → procedure ≡ procedure_at program point
    → p ≡ get_or program.procedures procedure p → statements ≡ p.statements → Ends program point procedure statements
reads_end program point procedure p statements below same read is =
    let reads : Reads program point p = reads_procedure program point procedure p below same read in
    let ends : length statements ≡ end_place program (procedure_at program point) = ap length is ∙ reads.ends in
    let (inside, back) =
    places_have_points program (procedure_at program point) (end_place program (procedure_at program point)) reads.there (omega arith) in
    record {
      there = omega (arith, reads.there, same);
      few = omega (arith, inside, ends);
      place = omega (arith, ends, ap (end_place program) same);
      target = ap₂ (point_of program) same ends;
    }

-- the sites of a procedure, as they are read from the table
pub record SitesRead (program : Program) (point : ℕ) (sites : List ℕ) : Type 0 where
  pub few : All (λ site. site < point_count program) sites
  pub returns : statement_at program point ≡ None → map (λ site. Ret site point (suc site)) sites ≡ edges_from program point

pub reads_sites : (program : Program) (lists : List (SmallVec ℕ)) (point procedure : ℕ) (list : SmallVec ℕ) (sites : List ℕ)
    → AreSites program (contents lists)
    → point < point_count program → procedure ≡ procedure_at program point → list ≡ get_or lists procedure list → sites ≡ list.items
    → SitesRead program point sites
reads_sites program lists point procedure list sites are below same read is =
    let place : IsPlaceOf program point = points_have_places program point below in
    let there : procedure < length lists = omega (arith, same, place.procedure, are.count, length-map lists (λ (list : SmallVec ℕ). list.items)) in
    let found : sites ≡ sites_of program (procedure_at program point) =
    is ∙ ap (λ (list : SmallVec ℕ). list.items) read ∙ sym (get_or-map (λ (list : SmallVec ℕ). list.items) lists procedure list [] there)
    ∙ are.each procedure [] (omega (arith, same, place.procedure)) ∙ ap (sites_of program) same in
    record {
      few = subst (All (λ site. site < point_count program)) (sym found) (sites_are_points program (procedure_at program point));
      returns = λ none. ap (map (λ site. Ret site point (suc site))) found ∙ returns_at_end program point below none;
    }
