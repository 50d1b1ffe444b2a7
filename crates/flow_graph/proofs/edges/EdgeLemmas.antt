-- What each edge out of a point is
use Rattle.std.proofs.Common.{◌≡◌, ℕ, zero, suc, ◌<◌, ◌≤◌, Bool, true, false, List, [], ◌∷◌, length, map, Option, Some, None, option_map}
use Rattle.std.proofs.Common.{option_and_then, slice_get, unwrap_or, All, Contains, nat_eq, ◌||◌, if◌then◌else◌, inl, inr, refl, sym, ap, ◌∙◌, subst}
use Rattle.std.proofs.Common.{arith}
use Rattle.std.specs.List.{list_any}
use Rattle.std.proofs.lemmas.List.Elements.{All-get_or}
use Rattle.tac_program.specs.Programs.{Procedure, Program}
use Rattle.tac_program.specs.Sound.{IsSound}
use Rattle.tac_program.specs.declared.program.Label.{Label}
use Rattle.tac_program.specs.declared.program.Stmt.{Stmt}
use Rattle.tac_program.specs.declared.program.StmtKind.{StmtKind}
use Rattle.tac_program.specs.declared.program.StmtKind.TheVariants as kind
use Rattle.flow_graph.specs.Edges.{label_point, two_steps, edges_of, callees_named, callees_at, calls, return_to, returns_of, edges_from, edges}
use Rattle.flow_graph.specs.Paths.{Edge, Step, Call, Ret, source_of}
use Rattle.flow_graph.specs.Points.{Place, points, place_of, procedure_at, statements_of, statement_at, kind_at, end_place, end_point, entry_point}
use Rattle.flow_graph.specs.Points.{point_of, point_count}
use Rattle.flow_graph.specs.ProgramLaws.{IsPlaceOf}
use Rattle.flow_graph.proofs.lists.Membership.{Contains-one, Contains-cons, Contains-nil, Contains-in_map, Contains-in_flat_map, Contains-flat_map}
use Rattle.flow_graph.proofs.lists.Membership.{Contains-in_range, Contains-range}
use Rattle.flow_graph.proofs.places.PointLemmas.{places_have_points, points_have_places}
use Rattle.flow_graph.proofs.places.Standing.{All-slice_get, slice_get_some, mapped_none, Stands, stands}

-- a point of a procedure
pub record IsIn (program : Program) (procedure point : ℕ) : Type 0 where
  pub below : point < point_count program
  pub inside : procedure_at program point ≡ procedure

pub in_procedure : (program : Program) (procedure place : ℕ) → procedure < length program.procedures → place ≤ end_place program procedure
    → IsIn program procedure (point_of program procedure place)
in_procedure program procedure place there within =
    let (below, is) = places_have_points program procedure place there within in
    record { below = below; inside = ap (λ (at : Place). at.procedure) is }

-- the point after a statement
pub next_in : (program : Program) (point : ℕ) (kind : StmtKind) → Stands program point kind → IsIn program (procedure_at program point) (suc point)
next_in program point kind stand =
    let next : IsIn program (procedure_at program point) (point_of program (procedure_at program point) (suc (place_of program point).place)) =
    in_procedure program (procedure_at program point) (suc (place_of program point).place) stand.procedure (omega (arith, stand.inside)) in
    subst (IsIn program (procedure_at program point)) (omega (arith, stand.back)) next

-- the point of a label
pub label_in : (program : Program) (point label : ℕ) (kind : StmtKind) (stand : Stands program point kind) → label < length stand.at.labels
    → IsIn program (procedure_at program point) (label_point program (procedure_at program point) label)
label_in program point label kind stand below =
    let pr : ℕ = procedure_at program point in
    let (l, found) : (l : Label) × (slice_get stand.at.labels label ≡ Some l) = slice_get_some stand.at.labels label below in
    let place : l.place ≤ length stand.at.statements =
    All-slice_get (λ (l : Label). l.place ≤ length stand.at.statements) stand.at.labels label l stand.sound_procedure.placed found in
    let ends : end_place program pr ≡ length stand.at.statements =
    ap (λ o. length (unwrap_or (option_map (λ (p : Procedure). p.statements) o) [])) stand.known in
    let leads : label_point program pr label ≡ point_of program pr l.place =
    ap (λ o. point_of program pr
    (unwrap_or (option_map (λ (l : Label). l.place) (option_and_then (λ (p : Procedure). slice_get p.labels label) o)) 0)) stand.known
    ∙ ap (λ o. point_of program pr (unwrap_or (option_map (λ (l : Label). l.place) o) 0)) found in
    subst (IsIn program pr) (sym leads) (in_procedure program pr l.place stand.procedure (omega (arith, place, ends)))

-- what an edge out of a point is
pub data IsFrom (program : Program) (point : ℕ) : Edge → Type 0 where
  a_step : (target : ℕ) → IsIn program (procedure_at program point) target → IsFrom program point (Step point target)
  a_call : (callee : ℕ) → callee < length program.procedures → calls program point callee ≡ true
      → IsFrom program point (Call point point (entry_point program callee))
  a_return : (site : ℕ) → site < point_count program → calls program site (procedure_at program point) ≡ true
      → kind_at program point ≡ None → point ≡ end_point program (procedure_at program point) → IsFrom program point (Ret site point (suc site))

pub source_is : (program : Program) (point : ℕ) (edge : Edge) → IsFrom program point edge → source_of edge ≡ point
source_is program point edge (a_step target inside) = refl
source_is program point edge (a_call callee there calling) = refl
source_is program point edge (a_return site below calling none ends) = refl

step_is : (program : Program) (point target : ℕ) (edge : Edge) → IsIn program (procedure_at program point) target
    → Contains (Step point target ∷ []) edge → IsFrom program point edge
step_is program point target edge is_in at = subst (IsFrom program point) (sym (Contains-one (Step point target) edge at)) (a_step target is_in)

two_steps_are : (program : Program) (point target : ℕ) (edge : Edge) → IsIn program (procedure_at program point) (suc point)
    → IsIn program (procedure_at program point) target
    → Contains (two_steps point target) edge → IsFrom program point edge
two_steps_are program point target edge next is_in at = by_test (nat_eq target (suc point)) at
  where
    by_test : (b : Bool) → Contains (if b then Step point (suc point) ∷ [] else Step point (suc point) ∷ Step point target ∷ []) edge
        → IsFrom program point edge
    by_test true at = step_is program point (suc point) edge next at
    by_test false at =
        elim (Contains-cons (Step point (suc point)) (Step point target ∷ []) edge at) [
          | inl same ↦ subst (IsFrom program point) (sym same) (a_step (suc point) next)
          | inr later ↦ step_is program point target edge is_in later
        ]

pub any_of : (x : ℕ) (xs : List ℕ) → Contains xs x → list_any (nat_eq x) xs ≡ true
any_of x [] among = absurd (Contains-nil x among)
any_of x (y ∷ ys) among = or_either (nat_eq x y) refl (any_of x ys)
  where
    or_either : (b : Bool) → nat_eq x y ≡ b → (Contains ys x → list_any (nat_eq x) ys ≡ true) → b || list_any (nat_eq x) ys ≡ true
    or_either true is rest = refl
    or_either false is rest =
        elim (Contains-cons y ys x among) [
          | inl same ↦ absurd (grind arith)
          | inr later ↦ rest later
        ]

pub All-Contains : {A : Type 0} (P : A → Type 0) (xs : List A) (x : A) → All P xs → Contains xs x → P x
All-Contains P xs x all among = subst P among.2 (All-get_or P xs among.0 x among.1 all)

calls_are : (program : Program) (point : ℕ) (callees : List ℕ) (edge : Edge) → kind_at program point ≡ Some (kind.Call callees)
    → All (λ p. p < length program.procedures) callees
    → Contains (map (λ callee. Call point point (entry_point program callee)) callees) edge → IsFrom program point edge
calls_are program point callees edge is there at =
    let (callee, among, same) = Contains-in_map (λ callee. Call point point (entry_point program callee)) callees edge at in
    let listed : callees_at program point ≡ callees = ap (λ o. unwrap_or (option_map callees_named o) []) is in
    let calling : calls program point callee ≡ true = ap (list_any (nat_eq callee)) listed ∙ any_of callee callees among in
    subst (IsFrom program point) (sym same) (a_call callee (All-Contains (λ p. p < length program.procedures) callees callee there among) calling)

pub edges_of_are : (program : Program) (point : ℕ) (k : StmtKind) (edge : Edge) → kind_at program point ≡ Some k → Stands program point k
    → Contains (edges_of program point k) edge → IsFrom program point edge
edges_of_are program point (kind.Copy x y) edge is stand at = step_is program point (suc point) edge (next_in program point _ stand) at
edges_of_are program point (kind.Unary x o y) edge is stand at = step_is program point (suc point) edge (next_in program point _ stand) at
edges_of_are program point (kind.Binary o x y z) edge is stand at = step_is program point (suc point) edge (next_in program point _ stand) at
edges_of_are program point (kind.Goto l) edge is stand at =
    step_is program point (label_point program (procedure_at program point) l) edge (label_in program point l _ stand stand.sound) at
edges_of_are program point (kind.If y l) edge is stand at =
    two_steps_are program point (label_point program (procedure_at program point) l) edge (next_in program point _ stand)
    (label_in program point l _ stand stand.sound.1) at
edges_of_are program point (kind.IfFalse y l) edge is stand at =
    two_steps_are program point (label_point program (procedure_at program point) l) edge (next_in program point _ stand)
    (label_in program point l _ stand stand.sound.1) at
edges_of_are program point (kind.IfCompare o l y z) edge is stand at =
    two_steps_are program point (label_point program (procedure_at program point) l) edge (next_in program point _ stand)
    (label_in program point l _ stand stand.sound.label) at
edges_of_are program point (kind.Call callees) edge is stand at = calls_are program point callees edge is stand.sound.there at
edges_of_are program point kind.Return edge is stand at =
    step_is program point (end_point program (procedure_at program point)) edge
    (in_procedure program (procedure_at program point) (end_place program (procedure_at program point)) stand.procedure (omega arith)) at
edges_of_are program point (kind.Read x) edge is stand at = step_is program point (suc point) edge (next_in program point _ stand) at
edges_of_are program point (kind.Print y) edge is stand at = step_is program point (suc point) edge (next_in program point _ stand) at
edges_of_are program point kind.Skip edge is stand at = step_is program point (suc point) edge (next_in program point _ stand) at

past_end : {A : Type 0} (xs : List A) (i : ℕ) → slice_get xs i ≡ None → length xs ≤ i
past_end [] i none = omega arith
past_end (x ∷ xs) zero none = absurd (cc none)
past_end (x ∷ xs) (suc i) none = let rest = past_end xs i none in omega arith

-- a point without a statement is its procedure's end
pub at_end : (program : Program) (point : ℕ) → point < point_count program → kind_at program point ≡ None
    → point ≡ end_point program (procedure_at program point)
at_end program point below none =
    let place : IsPlaceOf program point = points_have_places program point below in
    let past : end_place program (procedure_at program point) ≤ (place_of program point).place =
    past_end (statements_of program (procedure_at program point)) (place_of program point).place
    (mapped_none (λ (s : Stmt). s.kind) (statement_at program point) none) in
    omega (arith, place.back, place.place)

pub returns_are : (program : Program) (point : ℕ) (edge : Edge) → point < point_count program → kind_at program point ≡ None
    → Contains (returns_of program (procedure_at program point)) edge → IsFrom program point edge
returns_are program point edge below none at =
    let pr : ℕ = procedure_at program point in
    let (site, among, here) = Contains-in_flat_map (return_to program pr) (points program) edge at in
    let (low, high) = Contains-in_range 0 (point_count program) site among in
    by_test site (calls program site pr) refl (omega (arith, high)) (at_end program point below none) here
  where
    by_test : (site : ℕ) (b : Bool) → calls program site (procedure_at program point) ≡ b → site < point_count program
        → point ≡ end_point program (procedure_at program point)
        → Contains (if b then Ret site (end_point program (procedure_at program point)) (suc site) ∷ [] else []) edge → IsFrom program point edge
    by_test site true is below ends here =
        let same : edge ≡ Ret site point (suc site) = Contains-one (Ret site (end_point program (procedure_at program point)) (suc site)) edge here
        ∙ ap (λ x. Ret site x (suc site)) (sym ends) in
        subst (IsFrom program point) (sym same) (a_return site below is none ends)
    by_test site false is below ends here = absurd (Contains-nil edge here)

pub edges_from_are : (program : Program) → IsSound program → (point : ℕ) (edge : Edge) → point < point_count program
    → Contains (edges_from program point) edge → IsFrom program point edge
edges_from_are program sound point edge below at = by_kind (kind_at program point) refl at
  where
    by_kind : (k : Option StmtKind) → kind_at program point ≡ k
        → Contains (elim k [ Some k ↦ edges_of program point k | None ↦ returns_of program (procedure_at program point) ]) edge
        → IsFrom program point edge
    by_kind (Some k) is at = edges_of_are program point k edge is (stands program sound point k below is) at
    by_kind None is at = returns_are program point edge below is at

-- each edge leaves a point
pub edges_are : (program : Program) → IsSound program → (edge : Edge) → Contains (edges program) edge
    → (point : ℕ) × (point < point_count program) × Contains (edges_from program point) edge × IsFrom program point edge
edges_are program sound edge at =
    let (point, among, here) = Contains-in_flat_map (edges_from program) (points program) edge at in
    let (low, high) = Contains-in_range 0 (point_count program) point among in
    let below : point < point_count program = omega (arith, high) in
    (point, below, here, edges_from_are program sound point edge below here)

pub leaves : (program : Program) (point : ℕ) (edge : Edge) → point < point_count program → Contains (edges_from program point) edge
    → Contains (edges program) edge
leaves program point edge below at =
    Contains-flat_map (edges_from program) (points program) point edge (Contains-range 0 (point_count program) point (omega arith) (omega arith)) at
