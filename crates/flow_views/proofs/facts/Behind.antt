-- What stands behind a statement, as the code's tables tell it and as all that is known does.
use Rattle.std.proofs.Common.{◌≡◌, ℕ, suc, ◌+◌, ◌<◌, ◌≤◌, Bool, true, false, not, ◌&&◌, ◌||◌, List, [], ◌∷◌, Contains, IfSome, length, Option, Some, None}
use Rattle.std.proofs.Common.{◌-◌, option_map, unwrap_or, if◌then◌else◌, nat_eq, refl, sym, ap, subst, ◌∙◌, arith}
use Rattle.std.specs.List.{list_all, list_any}
use Rattle.tac_program.specs.Programs.{Program}
use Rattle.tac_program.specs.Sound.{IsSound}
use Rattle.tac_program.specs.declared.program.StmtKind.{StmtKind}
use Rattle.tac_program.specs.declared.program.StmtKind.TheVariants as kind
use Rattle.flow_graph.specs.Edges.{callees_named, edges_from}
use Rattle.flow_graph.specs.Paths.{target_of}
use Rattle.flow_graph.specs.Points.{end_place, entry_point, kind_at, point_count, procedure_at}
use Rattle.flow_graph.specs.ProgramLaws.{IsPlaceOf}
use Rattle.flow_graph.specs.declared.analysis.Analysis.{Analysis}
use Rattle.flow_graph.specs.declared.analysis.Analysis.TheVariants.{Reach, Live, Avail, Busy}
use Rattle.flow_graph.specs.declared.edge.Edge.{Edge}
use Rattle.flow_graph.proofs.edges.EdgeLemmas.{IsFrom, IsIn, a_step, a_call, a_return, edges_from_are, in_procedure}
use Rattle.flow_graph.proofs.lists.Membership.{Contains-first, Contains-later}
use Rattle.flow_graph.proofs.places.PointLemmas.{points_have_places}
use Rattle.flow_team.specs.Tables.{Facts}
use Rattle.point_sets.specs.Sets.{behind, has_behind, is_call, passed, passes, set_on}
use Rattle.point_sets.specs.declared.side.Side.{Side}
use Rattle.point_sets.specs.declared.side.Side.TheVariants.{Before, Behind}
use Rattle.flow_views.specs.Views.{end_shown, first_shown}
use Rattle.flow_views.specs.code.ViewProgram.{TellSame}

-- a statement that is no call calls nothing
calls_none : (k : StmtKind) → not (is_call k) ≡ true → callees_named k ≡ []
calls_none (kind.Copy x y) is = refl
calls_none (kind.Unary x op y) is = refl
calls_none (kind.Binary op x y z) is = refl
calls_none (kind.Goto label) is = refl
calls_none (kind.If y label) is = refl
calls_none (kind.IfFalse y label) is = refl
calls_none (kind.IfCompare op label y z) is = refl
calls_none (kind.Call callees) is = absurd (cc is)
calls_none kind.Return is = refl
calls_none (kind.Read x) is = refl
calls_none (kind.Print y) is = refl
calls_none kind.Skip is = refl

named_none : (o : Option StmtKind) → unwrap_or (option_map (λ k. not (is_call k)) o) false ≡ true → unwrap_or (option_map callees_named o) [] ≡ []
named_none None is = refl
named_none (Some k) is = calls_none k is

-- control goes from it to points of its procedure
steps_alone : (program : Program) (point : ℕ) (edge : Edge) → has_behind program point ≡ true → IsFrom program point edge
    → IsIn program (procedure_at program point) (target_of edge)
steps_alone program point _ is (a_step target inside) = inside
steps_alone program point _ is (a_call callee there calling) =
    absurd (cc (sym calling ∙ ap (list_any (nat_eq callee)) (named_none (kind_at program point) is)))
steps_alone program point _ is (a_return site there calling none ends) =
    absurd (cc (sym is ∙ ap (λ o. unwrap_or (option_map (λ k. not (is_call k)) o) false) none))

-- the procedure of one of its points
pub procedure_of : (program : Program) (procedure point : ℕ) → procedure < length program.procedures → entry_point program procedure ≤ point
    → point < entry_point program procedure + suc (end_place program procedure) → procedure_at program point ≡ procedure
procedure_of program procedure point there low high =
    let place : ℕ = point - entry_point program procedure in
    let at : IsIn program procedure (entry_point program procedure + place) =
    subst (IsIn program procedure) (omega arith) (in_procedure program procedure place there (omega arith)) in
    subst (λ (p : ℕ). procedure_at program p ≡ procedure) (omega arith) at.inside

-- and those are shown where it is
pub next_shown : (program : Program) → IsSound program → (procedure : Option ℕ) → IfSome procedure (λ p. p < length program.procedures)
    → (point : ℕ) → point < point_count program → (first_shown program procedure ≤ point) × (point < end_shown program procedure)
    → has_behind program point ≡ true → (edge : Edge) → Contains (edges_from program point) edge
    → (first_shown program procedure ≤ target_of edge) × (target_of edge < end_shown program procedure)
next_shown program sound None there point below at is edge among =
    let inside = steps_alone program point edge is (edges_from_are program sound point edge below among) in (omega arith, inside.below)
next_shown program sound (Some procedure) there point below at is edge among =
    let inside = steps_alone program point edge is (edges_from_are program sound point edge below among) in
    let place : IsPlaceOf program (target_of edge) = points_have_places program (target_of edge) inside.below in
    let same : procedure_at program (target_of edge) ≡ procedure = inside.inside ∙ procedure_of program procedure point there at.0 at.1 in
    (omega (arith, place.back, ap (entry_point program) same), omega (arith, place.back, place.place, ap (entry_point program) same, ap (end_place program) same))

-- facts that tell the same before a statement and where control goes from it tell the same on both its sides
any_same : (f g : Edge → Bool) (edges : List Edge) → ((edge : Edge) → Contains edges edge → f edge ≡ g edge) → list_any f edges ≡ list_any g edges
any_same f g [] same = refl
any_same f g (e ∷ es) same =
    let first = same e (Contains-first e es) in
    let rest = any_same f g es (λ edge among. same edge (Contains-later e es edge among)) in
    λ i. first i || rest i

all_same : (f g : Edge → Bool) (edges : List Edge) → ((edge : Edge) → Contains edges edge → f edge ≡ g edge) → list_all f edges ≡ list_all g edges
all_same f g [] same = refl
all_same f g (e ∷ es) same =
    let first = same e (Contains-first e es) in
    let rest = all_same f g es (λ edge among. same edge (Contains-later e es edge among)) in
    λ i. first i && rest i

module _ (program : Program) (one other : Facts) (point : ℕ) (here : TellSame one other point) where
  same_passed : (analysis : Analysis) → passed program analysis one point ≡ passed program analysis other point
  same_passed analysis = λ i bit. if here.path i then passes program analysis point bit (here.set i bit) else here.set i bit

  same_behind : (analysis : Analysis) → ((edge : Edge) → Contains (edges_from program point) edge → TellSame one other (target_of edge))
      → behind program analysis one point ≡ behind program analysis other point
  same_behind Reach next = same_passed Reach
  same_behind Live next = λ i bit.
      any_same (λ edge. one.contains (target_of edge) bit) (λ edge. other.contains (target_of edge) bit) (edges_from program point)
      (λ edge among. ap (λ (set : ℕ → Bool). set bit) (next edge among).set) i
  same_behind Avail next = same_passed Avail
  same_behind Busy next = λ i bit.
      all_same (λ edge. one.contains (target_of edge) bit) (λ edge. other.contains (target_of edge) bit) (edges_from program point)
      (λ edge among. ap (λ (set : ℕ → Bool). set bit) (next edge among).set) i

  pub same_set_on : (analysis : Analysis) (side : Side)
      → (side ≡ Behind → (edge : Edge) → Contains (edges_from program point) edge → TellSame one other (target_of edge))
      → set_on side program analysis one point ≡ set_on side program analysis other point
  same_set_on analysis Before next = here.set
  same_set_on analysis Behind next = same_behind analysis (next refl)
