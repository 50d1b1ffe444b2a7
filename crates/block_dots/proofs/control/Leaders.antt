-- An edge leads to a leader, or it is the step of a plain statement
use Rattle.std.proofs.Common.{◌≡◌, ◌∙◌, ℕ, zero, suc, ◌-◌, ◌<◌, ◌≤◌, Bool, true, false, not, ◌&&◌, ◌⊎◌, inl, inr, List, [], ◌∷◌, length}
use Rattle.std.proofs.Common.{Option, Some, None, option_and_then, option_map, slice_get, unwrap_or, nat_eq, ◌==◌, Contains, if◌then◌else◌}
use Rattle.std.proofs.Common.{refl, sym, ap, subst, arith}
use Rattle.std.proofs.lemmas.Bool.{eq-eqb}
use Rattle.std.specs.List.{filter, list_any}
use Rattle.tac_program.specs.Programs.{Procedure, Program}
use Rattle.tac_program.specs.Sound.{IsSound}
use Rattle.tac_program.specs.declared.program.Label.{Label}
use Rattle.tac_program.specs.declared.program.Stmt.{Stmt}
use Rattle.tac_program.specs.declared.program.StmtKind.{StmtKind}
use Rattle.tac_program.specs.declared.program.StmtKind.TheVariants as kind
use Rattle.flow_graph.specs.Edges.{callees_named, calls, edges_from, edges_of, label_point, return_to, returns_of, two_steps}
use Rattle.flow_graph.specs.Paths.{target_of}
use Rattle.flow_graph.specs.declared.place.Place.{Place}
use Rattle.flow_graph.specs.declared.edge.Edge.{Edge}
use Rattle.flow_graph.specs.declared.edge.Edge.TheVariants.{Step, Call, Ret}
use Rattle.flow_graph.specs.Points.{end_place, end_point, entry_point, kind_at, place_of, point_count, point_of, points, procedure_at, statements_of}
use Rattle.flow_graph.proofs.edges.EdgeLemmas.{All-Contains, IsFrom, a_call, a_return, a_step, edges_from_are}
use Rattle.flow_graph.proofs.lists.Membership.{Contains-cons, Contains-in_flat_map, Contains-in_map, Contains-nil, Contains-one}
use Rattle.flow_graph.proofs.places.PointLemmas.{places_have_points}
use Rattle.flow_graph.proofs.places.Standing.{All-slice_get, Stands, slice_get_some, stands}
use Rattle.flow_views.specs.Views.{labels_at, labels_in, labels_of_place}
use Rattle.point_sets.specs.Sets.{has_behind, is_call}
use Rattle.text_pieces.specs.code.Lists.{some_stand}
use Rattle.block_dots.specs.Blocks.{goes_on, is_leader, is_plain}

-- a test that fails makes a leader
not_first : (place on label behind : Bool) → place ≡ true → not (not place && (on && (not label && behind))) ≡ true
not_first place on label behind is = ap (λ (b : Bool). not (not b && (on && (not label && behind)))) is

not_on : (place on label behind : Bool) → on ≡ false → not (place && (on && (label && behind))) ≡ true
not_on true on label behind is = ap (λ (b : Bool). not (b && (label && behind))) is
not_on false on label behind is = refl

labelled : (place on label behind : Bool) → label ≡ true → not (place && (on && (not label && behind))) ≡ true
labelled true true label behind is = ap (λ (b : Bool). not (not b && behind)) is
labelled true false label behind is = refl
labelled false on label behind is = refl

none_behind : (place on label behind : Bool) → behind ≡ false → not (place && (on && (label && behind))) ≡ true
none_behind true true true behind is = ap not is
none_behind true true false behind is = refl
none_behind true false label behind is = refl
none_behind false on label behind is = refl

-- some element of a list passes
some_pass : {A : Type 0} (test : A → Bool) (xs : List A) (i : ℕ) (x : A) → slice_get xs i ≡ Some x → test x ≡ true
    → some_stand (filter test xs) ≡ true
some_pass test [] i x found is = absurd (cc found)
some_pass test (y ∷ ys) zero x found is =
    let same : y ≡ x = cc found in
    ap (λ (b : Bool). some_stand (if b then y ∷ filter test ys else filter test ys)) (ap test same ∙ is)
some_pass test (y ∷ ys) (suc i) x found is = by_test (test y) (some_pass test ys i x found is)
  where
    by_test : (b : Bool) → some_stand (filter test ys) ≡ true → some_stand (if b then y ∷ filter test ys else filter test ys) ≡ true
    by_test true rest = refl
    by_test false rest = rest

-- a call is no plain statement
plain_calls_none : (k : StmtKind) (procedure : ℕ) → list_any (nat_eq procedure) (callees_named k) ≡ true → is_plain k ≡ false
plain_calls_none (kind.Copy x y) procedure is = absurd (cc is)
plain_calls_none (kind.Unary x op y) procedure is = absurd (cc is)
plain_calls_none (kind.Binary op x y z) procedure is = absurd (cc is)
plain_calls_none (kind.Goto label) procedure is = refl
plain_calls_none (kind.If y label) procedure is = refl
plain_calls_none (kind.IfFalse y label) procedure is = refl
plain_calls_none (kind.IfCompare op label y z) procedure is = refl
plain_calls_none (kind.Call callees) procedure is = refl
plain_calls_none kind.Return procedure is = refl
plain_calls_none (kind.Read x) procedure is = absurd (cc is)
plain_calls_none (kind.Print y) procedure is = absurd (cc is)
plain_calls_none kind.Skip procedure is = absurd (cc is)

calls_no_plain : (program : Program) (site procedure : ℕ) → calls program site procedure ≡ true → goes_on program site ≡ false
calls_no_plain program site procedure is = by_kind (kind_at program site) is
  where
    by_kind : (o : Option StmtKind) → list_any (nat_eq procedure) (unwrap_or (option_map callees_named o) []) ≡ true
        → unwrap_or (option_map is_plain o) false ≡ false
    by_kind None is = refl
    by_kind (Some k) is = plain_calls_none k procedure is

-- no statement stands at a procedure's end
past_all : {A : Type 0} (xs : List A) → slice_get xs (length xs) ≡ None
past_all [] = refl
past_all (x ∷ xs) = past_all xs

pub none_at_end : (program : Program) (procedure : ℕ) → procedure < length program.procedures → kind_at program (end_point program procedure) ≡ None
none_at_end program procedure there =
    let at = (places_have_points program procedure (end_place program procedure) there (omega arith)).1 in
    ap (λ (a : Place). option_map (λ (s : Stmt). s.kind) (slice_get (statements_of program a.procedure) a.place)) at
    ∙ ap (λ (o : Option Stmt). option_map (λ (s : Stmt). s.kind) o) (past_all (statements_of program procedure))

-- returns are neither steps nor calls
one_return : (program : Program) (procedure site : ℕ) (edge : Edge) → Contains (return_to program procedure site) edge
    → edge ≡ Ret site (end_point program procedure) (suc site)
one_return program procedure site edge at = by_test (calls program site procedure) at
  where
    by_test : (b : Bool) → Contains (if b then Ret site (end_point program procedure) (suc site) ∷ [] else []) edge
        → edge ≡ Ret site (end_point program procedure) (suc site)
    by_test true at = Contains-one (Ret site (end_point program procedure) (suc site)) edge at
    by_test false at = absurd (Contains-nil edge at)

no_step : (program : Program) (procedure source target : ℕ) → Contains (returns_of program procedure) (Step source target) → ⊥
no_step program procedure source target at =
    let (site, among, there) = Contains-in_flat_map (return_to program procedure) (points program) (Step source target) at in
    cc (one_return program procedure site (Step source target) there)

no_call : (program : Program) (procedure site source target : ℕ) → Contains (returns_of program procedure) (Call site source target) → ⊥
no_call program procedure s source target at =
    let (site, among, there) = Contains-in_flat_map (return_to program procedure) (points program) (Call s source target) at in
    cc (one_return program procedure site (Call s source target) there)

module _ (program : Program) where
  -- the first point of a procedure
  pub entry_leads : (procedure : ℕ) → procedure < length program.procedures → is_leader program (entry_point program procedure) ≡ true
  entry_leads procedure there =
      let point : ℕ = entry_point program procedure in
      let is = (places_have_points program procedure 0 there (omega arith)).1 in
      not_first (nat_eq (place_of program point).place 0) (goes_on program (point - 1)) (some_stand (labels_at program point))
      (has_behind program point)
      (ap (λ (at : Place). nat_eq at.place 0) is)

  -- its end
  end_leads : (point : ℕ) → kind_at program point ≡ None → is_leader program point ≡ true
  end_leads point none =
      none_behind (not (nat_eq (place_of program point).place 0)) (goes_on program (point - 1)) (not (some_stand (labels_at program point)))
      (has_behind program point) (ap (λ (o : Option StmtKind). unwrap_or (option_map (λ k. not (is_call k)) o) false) none)

  -- a point behind a statement that is not plain
  behind_leads : (point : ℕ) → goes_on program point ≡ false → is_leader program (suc point) ≡ true
  behind_leads point is =
      let back : suc point - 1 ≡ point = omega arith in
      not_on (not (nat_eq (place_of program (suc point)).place 0)) (goes_on program (suc point - 1))
      (not (some_stand (labels_at program (suc point))))
      (has_behind program (suc point)) (ap (goes_on program) back ∙ is)

  -- a point with a label
  label_leads : (point label : ℕ) (k : StmtKind) (stand : Stands program point k) → label < length stand.at.labels
      → is_leader program (label_point program (procedure_at program point) label) ≡ true
  label_leads point label k stand below =
      let pr : ℕ = procedure_at program point in
      let (l, found) : (l : Label) × (slice_get stand.at.labels label ≡ Some l) = slice_get_some stand.at.labels label below in
      let place : l.place ≤ length stand.at.statements =
      All-slice_get (λ (l : Label). l.place ≤ length stand.at.statements) stand.at.labels label l stand.sound_procedure.placed found in
      let ends : end_place program pr ≡ length stand.at.statements =
      ap (λ o. length (unwrap_or (option_map (λ (p : Procedure). p.statements) o) [])) stand.known in
      let leads : label_point program pr label ≡ point_of program pr l.place =
      ap (λ o. point_of program pr
      (unwrap_or (option_map (λ (l : Label). l.place) (option_and_then (λ (p : Procedure). slice_get p.labels label) o)) 0)) stand.known
      ∙ ap (λ o. point_of program pr (unwrap_or (option_map (λ (l : Label). l.place) o) 0)) found in
      let target : ℕ = point_of program pr l.place in
      let at : place_of program target ≡ record { procedure = pr; place = l.place } =
      (places_have_points program pr l.place stand.procedure (omega (arith, place, ends))).1 in
      let labels : labels_at program target ≡ labels_of_place l.place stand.at.labels =
      ap (λ (a : Place). labels_of_place a.place (labels_in program a.procedure)) at
      ∙ ap (λ o. labels_of_place l.place (unwrap_or (option_map (λ (p : Procedure). p.labels) o) [])) stand.known in
      let some : some_stand (labels_at program target) ≡ true =
      ap some_stand labels ∙ some_pass (λ (one : Label). one.place == l.place) stand.at.labels label l found (eq-eqb l.place l.place refl) in
      subst (λ (t : ℕ). is_leader program t ≡ true) (sym leads)
      (labelled (not (nat_eq (place_of program target).place 0)) (goes_on program (target - 1)) (some_stand (labels_at program target))
      (has_behind program target) some)

  -- where an edge leads
  abbrev pub Leads : ℕ → Edge → Type 0
  Leads point edge = (is_leader program (target_of edge) ≡ true) ⊎ ((goes_on program point ≡ true) × (edge ≡ Step point (suc point)))

  goes : (point : ℕ) (k : StmtKind) → kind_at program point ≡ Some k → goes_on program point ≡ is_plain k
  goes point k is = ap (λ (o : Option StmtKind). unwrap_or (option_map is_plain o) false) is

  step_on : (point : ℕ) (k : StmtKind) (edge : Edge) → kind_at program point ≡ Some k → is_plain k ≡ true
      → Contains (Step point (suc point) ∷ []) edge → Leads point edge
  step_on point k edge is plain at = inr (goes point k is ∙ plain, Contains-one (Step point (suc point)) edge at)

  to_leader : (point target : ℕ) (edge : Edge) → is_leader program target ≡ true → Contains (Step point target ∷ []) edge → Leads point edge
  to_leader point target edge is at = inl (subst (λ (e : Edge). is_leader program (target_of e) ≡ true)
      (sym (Contains-one (Step point target) edge at)) is)

  to_leaders : (point target : ℕ) (edge : Edge) → is_leader program (suc point) ≡ true → is_leader program target ≡ true
      → Contains (two_steps point target) edge → Leads point edge
  to_leaders point target edge next is at = by_test (nat_eq target (suc point)) at
    where
      by_test : (b : Bool) → Contains (if b then Step point (suc point) ∷ [] else Step point (suc point) ∷ Step point target ∷ []) edge
          → Leads point edge
      by_test true at = to_leader point (suc point) edge next at
      by_test false at =
          elim (Contains-cons (Step point (suc point)) (Step point target ∷ []) edge at) [
            | inl same ↦ inl (subst (λ (e : Edge). is_leader program (target_of e) ≡ true) (sym same) next)
            | inr later ↦ to_leader point target edge is later
          ]

  module _ (sound : IsSound program) (point : ℕ) (below : point < point_count program) where
    -- a test
    test_leads : (k : StmtKind) (label : ℕ) (edge : Edge) → (is : kind_at program point ≡ Some k) → is_plain k ≡ false
        → (stand : Stands program point k) → label < length stand.at.labels
        → Contains (two_steps point (label_point program (procedure_at program point) label)) edge → Leads point edge
    test_leads k label edge is plain stand there at =
        to_leaders point (label_point program (procedure_at program point) label) edge (behind_leads point (goes point k is ∙ plain))
        (label_leads point label k stand there) at

    statement_leads : (k : StmtKind) (edge : Edge) → kind_at program point ≡ Some k → Stands program point k
        → Contains (edges_of program point k) edge → Leads point edge
    statement_leads (kind.Copy x y) edge is stand at = step_on point _ edge is refl at
    statement_leads (kind.Unary x o y) edge is stand at = step_on point _ edge is refl at
    statement_leads (kind.Binary o x y z) edge is stand at = step_on point _ edge is refl at
    statement_leads (kind.Goto l) edge is stand at =
        to_leader point (label_point program (procedure_at program point) l) edge (label_leads point l _ stand stand.sound) at
    statement_leads (kind.If y l) edge is stand at = test_leads _ l edge is refl stand stand.sound.1 at
    statement_leads (kind.IfFalse y l) edge is stand at = test_leads _ l edge is refl stand stand.sound.1 at
    statement_leads (kind.IfCompare o l y z) edge is stand at = test_leads _ l edge is refl stand stand.sound.label at
    statement_leads (kind.Call callees) edge is stand at =
        let (callee, among, same) = Contains-in_map (λ callee. Call point point (entry_point program callee)) callees edge at in
        inl (subst (λ (e : Edge). is_leader program (target_of e) ≡ true) (sym same)
        (entry_leads callee (All-Contains (λ p. p < length program.procedures) callees callee stand.sound.there among)))
    statement_leads kind.Return edge is stand at =
        let last : ℕ = end_point program (procedure_at program point) in
        to_leader point last edge (end_leads last (none_at_end program (procedure_at program point) stand.procedure)) at
    statement_leads (kind.Read x) edge is stand at = step_on point _ edge is refl at
    statement_leads (kind.Print y) edge is stand at = step_on point _ edge is refl at
    statement_leads kind.Skip edge is stand at = step_on point _ edge is refl at

    return_leads : (edge : Edge) → IsFrom program point edge → kind_at program point ≡ None → Contains
        (returns_of program (procedure_at program point)) edge
        → Leads point edge
    return_leads _ (a_step target inside) none at = absurd (no_step program (procedure_at program point) point target at)
    return_leads _ (a_call callee there calling) none at = absurd (no_call program (procedure_at program point) point point
        (entry_point program callee) at)
    return_leads _ (a_return site there calling none_here ends) none at = inl
        (behind_leads site (calls_no_plain program site (procedure_at program point) calling))

    pub edge_leads : (edge : Edge) → Contains (edges_from program point) edge → Leads point edge
    edge_leads edge among = by_kind (kind_at program point) refl among
      where
        by_kind : (o : Option StmtKind) → kind_at program point ≡ o
            → Contains (elim o [ Some k ↦ edges_of program point k | None ↦ returns_of program (procedure_at program point) ]) edge → Leads point edge
        by_kind (Some k) is at = statement_leads k edge is (stands program sound point k below is) at
        by_kind None is at = return_leads edge (edges_from_are program sound point edge below among) is at
