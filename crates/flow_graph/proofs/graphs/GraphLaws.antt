-- Every program's graph is well formed, and its live variables are liveness
use Rattle.std.proofs.Common.{◌≡◌, ℕ, suc, ◌<◌, Bool, true, List, [], ◌∷◌, length, map, Option, Some, None, option_map, slice_get, unwrap_or}
use Rattle.std.proofs.Common.{position, Contains, nat_eq, codes, bytes_eq, refl, sym, ap, ◌∙◌, subst, arith}
use Rattle.std.specs.List.{list_any}
use Rattle.std.proofs.lemmas.List.Quantifiers.{position-Some}
use Rattle.std.proofs.lemmas.Map.Views.{Contains-from_any}
use Rattle.std.proofs.lemmas.Option.{slice_get_past}
use Rattle.tac_program.specs.Programs.{Program}
use Rattle.tac_program.specs.Sound.{IsSound}
use Rattle.tac_program.specs.declared.program.Stmt.{Stmt}
use Rattle.tac_program.specs.declared.program.StmtKind.{StmtKind}
use Rattle.tac_program.specs.declared.program.StmtKind.TheVariants as kind
use Rattle.flow_graph.specs.Analyses.{main_procedure, shape_of, transfer_of}
use Rattle.flow_graph.specs.Runs.{accesses_of}
use Rattle.flow_graph.specs.Edges.{callees_named, callees_at, calls, edges_of, edges_from, edges, return_to, returns_of}
use Rattle.flow_graph.specs.Paths.{Edge, Step, Call, Ret, source_of, target_of, IsEdge}
use Rattle.flow_graph.specs.Points.{Place, points, procedure_at, kind_at, statements_of, end_place, end_point, entry_point, point_count}
use Rattle.flow_graph.specs.ProgramLaws.{EdgesJoinPoints, GraphsAreWellFormed, MayFormsAreWellFormed, CallsOfProgramsReturn, CallsReturnBehindSites}
use Rattle.flow_graph.specs.ProgramLaws.{ReturnsHaveCallsAtSites, LiveIsLiveness, DeadVariablesAreSafe}
use Rattle.flow_graph.specs.Transfers.{reads, operands_of, names_variable}
use Rattle.flow_graph.specs.Universes.{Reach, Live, Avail, Busy}
use Rattle.flow_graph.proofs.edges.EdgeLemmas.{IsIn, IsFrom, a_step, a_call, a_return, in_procedure, next_in, edges_are, leaves, source_is}
use Rattle.flow_graph.proofs.lists.Membership.{Contains-flat_map, Contains-range, Contains-first}
use Rattle.flow_graph.proofs.places.PointLemmas.{places_have_points, points_have_places}
use Rattle.flow_graph.proofs.paths.Reversal.{reversed_is_well_formed, Contains-map}
use Rattle.flow_graph.proofs.paths.RunLemmas.{dead_is_safe}
use Rattle.flow_graph.proofs.places.Standing.{stands}

-- what an edge says of the point that it leaves
step_of : (program : Program) (point x y : ℕ) (edge : Edge) → IsFrom program point edge → edge ≡ Step x y
    → (x ≡ point) × IsIn program (procedure_at program point) y
step_of program point x y edge (a_step target is_in) same =
    let target_is : target ≡ y = cc in
    (cc, subst (IsIn program (procedure_at program point)) target_is is_in)
step_of program point x y edge (a_call callee there calling) same = absurd (cc same)
step_of program point x y edge (a_return site below calling none ends) same = absurd (cc same)

-- a call of a procedure at its site
pub record IsCall (program : Program) (site x y : ℕ) (callee : ℕ) : Type 0 where
  pub at_site : x ≡ site
  pub there : callee < length program.procedures
  pub enters : y ≡ entry_point program callee
  pub calling : calls program site callee ≡ true

call_of : (program : Program) (point site x y : ℕ) (edge : Edge) → IsFrom program point edge → edge ≡ Call site x y
    → (callee : ℕ) × (site ≡ point) × IsCall program site x y callee
call_of program point site x y edge (a_step target is_in) same = absurd (cc same)
call_of program point site x y edge (a_call callee there calling) same =
    let is_site : site ≡ point = cc in
    (callee, is_site, record { at_site = cc; there = there; enters = cc; calling = rw is_site calling })
call_of program point site x y edge (a_return other below calling none ends) same = absurd (cc same)

-- a return from a procedure to the point after a site
pub record IsReturn (program : Program) (site x y : ℕ) : Type 0 where
  pub below : site < point_count program
  pub calling : calls program site (procedure_at program x) ≡ true
  pub leaves : x ≡ end_point program (procedure_at program x)
  pub after : y ≡ suc site

return_of : (program : Program) (point site x y : ℕ) (edge : Edge) → IsFrom program point edge → edge ≡ Ret site x y
    → (x ≡ point) × IsReturn program site x y
return_of program point site x y edge (a_step target is_in) same = absurd (cc same)
return_of program point site x y edge (a_call callee there calling) same = absurd (cc same)
return_of program point site x y edge (a_return other below calling none ends) same =
    let is_point : x ≡ point = cc in
    let is_site : site ≡ other = cc in
    (is_point, record { below = rw is_site below; calling = rw (is_site, is_point) calling; leaves = rw is_point ends; after = cc })

-- the statement at a site that calls some procedure is a call
pub a_site_calls : (program : Program) (site procedure : ℕ) → calls program site procedure ≡ true
    → (callees : List ℕ) × (kind_at program site ≡ Some (kind.Call callees))
a_site_calls program site procedure calling = by_kind (kind_at program site) refl calling
  where
    by_kind : (k : Option StmtKind) → kind_at program site ≡ k → list_any (nat_eq procedure) (unwrap_or (option_map callees_named k) []) ≡ true
        → (callees : List ℕ) × (kind_at program site ≡ Some (kind.Call callees))
    by_kind None is any = absurd (cc any)
    by_kind (Some (kind.Copy x y)) is any = absurd (cc any)
    by_kind (Some (kind.Unary x o y)) is any = absurd (cc any)
    by_kind (Some (kind.Binary o x y z)) is any = absurd (cc any)
    by_kind (Some (kind.Goto l)) is any = absurd (cc any)
    by_kind (Some (kind.If y l)) is any = absurd (cc any)
    by_kind (Some (kind.IfFalse y l)) is any = absurd (cc any)
    by_kind (Some (kind.IfCompare o l y z)) is any = absurd (cc any)
    by_kind (Some (kind.Call ps)) is any = (ps, is)
    by_kind (Some kind.Return) is any = absurd (cc any)
    by_kind (Some (kind.Read x)) is any = absurd (cc any)
    by_kind (Some (kind.Print y)) is any = absurd (cc any)
    by_kind (Some kind.Skip) is any = absurd (cc any)

-- the point after a site stands in the same procedure
pub after_site : (program : Program) → IsSound program → (site procedure : ℕ) → site < point_count program → calls program site procedure ≡ true
    → IsIn program (procedure_at program site) (suc site)
after_site program sound site procedure below calling =
    let (callees, is) = a_site_calls program site procedure calling in
    next_in program site (kind.Call callees) (stands program sound site (kind.Call callees) below is)

pub entry_in : (program : Program) (procedure : ℕ) → procedure < length program.procedures → IsIn program procedure (entry_point program procedure)
entry_in program procedure there = in_procedure program procedure 0 there (omega arith)

pub end_in : (program : Program) (procedure : ℕ) → procedure < length program.procedures → IsIn program procedure (end_point program procedure)
end_in program procedure there = in_procedure program procedure (end_place program procedure) there (omega arith)

number_below : (p : List ℕ → Bool) (names : List (List ℕ)) → 0 < length names → unwrap_or (position p names) 0 < length names
number_below p names some = by_option (position p names) refl
  where
    by_option : (o : Option ℕ) → position p names ≡ o → unwrap_or o 0 < length names
    by_option None is = some
    by_option (Some i) is = (position-Some p names i [] is).0

-- there is no statement at an end
pub none_at_end : (program : Program) (procedure : ℕ) → procedure < length program.procedures → kind_at program (end_point program procedure) ≡ None
none_at_end program procedure there =
    let (below, is) = places_have_points program procedure (end_place program procedure) there (omega arith) in
    ap (λ (at : Place). option_map (λ (s : Stmt). s.kind) (slice_get (statements_of program at.procedure) at.place)) is
    ∙ ap (option_map (λ (s : Stmt). s.kind)) (slice_get_past (statements_of program procedure) (end_place program procedure) (omega arith))

-- a return leaves the end of a procedure that is there
return_leaves : (program : Program) → IsSound program → (site x y : ℕ) → IsEdge (shape_of program) (Ret site x y)
    → (procedure_at program x < length program.procedures) × IsReturn program site x y
return_leaves program sound site x y is_edge =
    let (point, below, here, is) = edges_are program sound (Ret site x y) is_edge in
    let (same, return) = return_of program point site x y (Ret site x y) is refl in
    let there : procedure_at program point < length program.procedures = (points_have_places program point below).procedure in
    (subst (λ p. procedure_at program p < length program.procedures) (sym same) there, return)

call_enters : (program : Program) → IsSound program → (site x y : ℕ) → IsEdge (shape_of program) (Call site x y)
    → (site < point_count program) × (procedure_at program y < length program.procedures) × IsCall program site x y (procedure_at program y)
call_enters program sound site x y is_edge =
    let (point, below, here, is) = edges_are program sound (Call site x y) is_edge in
    let (callee, same, call) = call_of program point site x y (Call site x y) is refl in
    let inside : callee ≡ procedure_at program y = sym (ap (procedure_at program) call.enters ∙ (entry_in program callee call.there).inside) in (
      subst (λ p. p < point_count program) (sym same) below,
      subst (λ p. p < length program.procedures) inside call.there,
      subst (IsCall program site x y) inside call,
    )

pub graphs_are_well_formed : GraphsAreWellFormed
graphs_are_well_formed program sound = record {
  root_in_range = subst (λ n. main_procedure program < n) sound.named
      (number_below (bytes_eq (codes "main")) program.procedure_names (omega (arith, sound.main.1)));
  entry_inside = λ procedure there. (entry_in program procedure there).inside;
  exit_inside = λ procedure there. (end_in program procedure there).inside;
  step_inside = λ x y is_edge.
      let (point, below, here, is) = edges_are program sound (Step x y) is_edge in
      let (same, is_in) = step_of program point x y (Step x y) is refl in
      ap (procedure_at program) same ∙ sym is_in.inside;
  call_to_entry = λ site x y is_edge.
      let (below, there, call) = call_enters program sound site x y is_edge in
      (there, call.enters);
  return_from_exit = λ site x y is_edge.
      let (there, return) = return_leaves program sound site x y is_edge in
      (there, return.leaves);
  site_inside = λ site x y u z is_call is_return.
      let (below, there, call) = call_enters program sound site x y is_call in
      let (there', return) = return_leaves program sound site u z is_return in
      let after : procedure_at program (suc site) ≡ procedure_at program site =
      (after_site program sound site (procedure_at program u) return.below return.calling).inside in
      ap (procedure_at program) call.at_site ∙ sym after ∙ sym (ap (procedure_at program) return.after);
}

pub may_forms_are_well_formed : MayFormsAreWellFormed
may_forms_are_well_formed program Reach sound = graphs_are_well_formed program sound
may_forms_are_well_formed program Avail sound = graphs_are_well_formed program sound
may_forms_are_well_formed program Live sound = reversed_is_well_formed (shape_of program) (graphs_are_well_formed program sound)
may_forms_are_well_formed program Busy sound = reversed_is_well_formed (shape_of program) (graphs_are_well_formed program sound)

-- a procedure's end has a return to each site that calls it
pub has_return : (program : Program) (site procedure : ℕ) → site < point_count program → procedure < length program.procedures
    → calls program site procedure ≡ true
    → Contains (edges program) (Ret site (end_point program procedure) (suc site))
has_return program site procedure below there calling =
    let edge : Edge = Ret site (end_point program procedure) (suc site) in
    let in_list : return_to program procedure site ≡ edge ∷ [] = rw calling refl in
    let one : Contains (return_to program procedure site) edge = subst (λ es. Contains es edge) (sym in_list) (Contains-first edge []) in
    let among : Contains (returns_of program procedure) edge =
    Contains-flat_map (return_to program procedure) (points program) site edge
    (Contains-range 0 (point_count program) site (omega arith) (omega arith)) one in
    let ends : IsIn program procedure (end_point program procedure) = end_in program procedure there in
    let from : edges_from program (end_point program procedure) ≡ returns_of program procedure =
    ap (λ k. elim k [
      | Some k ↦ edges_of program (end_point program procedure) k
      | None ↦ returns_of program (procedure_at program (end_point program procedure))
    ]) (none_at_end program procedure there)
    ∙ ap (returns_of program) ends.inside in
    leaves program (end_point program procedure) edge ends.below (subst (λ es. Contains es edge) (sym from) among)

pub calls_of_programs_return : CallsOfProgramsReturn
calls_of_programs_return program sound site x y is_edge =
    let (below, there, call) = call_enters program sound site x y is_edge in
    (suc site, has_return program site (procedure_at program y) below there call.calling)

-- each procedure that the statement at a site may call has a call there
pub has_call : (program : Program) (site procedure : ℕ) → site < point_count program → calls program site procedure ≡ true
    → Contains (edges program) (Call site site (entry_point program procedure))
has_call program site procedure below calling =
    let edge : Edge = Call site site (entry_point program procedure) in
    let enter = λ (callee : ℕ). Call site site (entry_point program callee) in
    let (callees, is) = a_site_calls program site procedure calling in
    let listed : callees_at program site ≡ callees = ap (λ o. unwrap_or (option_map callees_named o) []) is in
    let among : Contains callees procedure =
    Contains-from_any {eq = nat_eq} (λ x y same. grind arith) procedure callees (sym (ap (list_any (nat_eq procedure)) listed) ∙ calling) in
    let from : edges_from program site ≡ map enter callees =
    ap (λ k. elim k [ Some k ↦ edges_of program site k | None ↦ returns_of program (procedure_at program site) ]) is in
    leaves program site edge below (subst (λ es. Contains es edge) (sym from) (Contains-map enter callees procedure among))

pub calls_return_behind_sites : CallsReturnBehindSites
calls_return_behind_sites program site x y z sound is_call =
    let (below, there, call) = call_enters program sound site x y is_call in
    let last : ℕ = end_point program (procedure_at program y) in
    let behind : Contains (edges program) (Ret site last (suc site)) = has_return program site (procedure_at program y) below there call.calling in (
      (λ is_return. (return_leaves program sound site last z is_return).1.after),
      (λ same. subst (λ w. Contains (edges program) (Ret site last w)) (sym same) behind),
    )

pub returns_have_calls_at_sites : ReturnsHaveCallsAtSites
returns_have_calls_at_sites program site x y z sound is_return =
    let (there, return) = return_leaves program sound site x y is_return in
    let first : ℕ = entry_point program (procedure_at program x) in
    let at : Contains (edges program) (Call site site first) = has_call program site (procedure_at program x) return.below return.calling in (
      (λ is_call. (call_enters program sound site z first is_call).2.at_site),
      (λ same. subst (λ w. Contains (edges program) (Call site w first)) (sym same) at),
    )

reads_of : (program : Program) (point variable : ℕ) (k : Option StmtKind) → kind_at program point ≡ k
    → reads program point variable ≡ list_any (names_variable variable) (unwrap_or (option_map operands_of k) [])
reads_of program point variable k is = ap (λ o. list_any (names_variable variable) (unwrap_or (option_map operands_of o) [])) is

-- only steps leave a statement that reads
reader_steps_of : (program : Program) (point variable : ℕ) (edge : Edge) → IsFrom program point edge → reads program point variable ≡ true
    → (x : ℕ) × (y : ℕ) × (edge ≡ Step x y)
reader_steps_of program point variable edge (a_step target is_in) reading = (point, target, refl)
reader_steps_of program point variable edge (a_call callee there calling) reading =
    let (callees, is) = a_site_calls program point callee calling in
    absurd (cc (reading, reads_of program point variable (Some (kind.Call callees)) is))
reader_steps_of program point variable edge (a_return site below calling none ends) reading =
    absurd (cc (reading, reads_of program point variable None none))

pub live_is_liveness : LiveIsLiveness
live_is_liveness program variable sound = record {
  gen_reads = λ x y is_edge. refl;
  kill_writes = λ x y is_edge. refl;
  reader_steps = λ edge is_edge reading.
      let (point, below, here, is) = edges_are program sound edge is_edge in
      reader_steps_of program point variable edge is (subst (λ p. reads program p variable ≡ true) (source_is program point edge is) reading);
  final_reads_nothing = reads_of program (end_point program (main_procedure program)) variable None
      (none_at_end program (main_procedure program) (graphs_are_well_formed program sound).root_in_range);
}

pub dead_variables_are_safe : DeadVariablesAreSafe
dead_variables_are_safe program point variable sound =
    dead_is_safe (shape_of program) (transfer_of program Live variable) (accesses_of program variable) point
    (graphs_are_well_formed program sound) (calls_of_programs_return program sound) (live_is_liveness program variable sound)

-- where an edge leads
target_below : (program : Program) → IsSound program → (point : ℕ) (edge : Edge) → IsFrom program point edge → target_of edge < point_count program
target_below program sound point edge (a_step target is_in) = is_in.below
target_below program sound point edge (a_call callee there calling) = (entry_in program callee there).below
target_below program sound point edge (a_return site below calling none ends) =
    (after_site program sound site (procedure_at program point) below calling).below

pub edges_join_points : EdgesJoinPoints
edges_join_points program sound edge at =
    let (point, below, here, is) = edges_are program sound edge at in
    let source : source_of edge ≡ point = source_is program point edge is in
    record {
      source = rw source below;
      target = target_below program sound point edge is;
      listed = subst (λ p. Contains (edges_from program p) edge) (sym source) here;
    }
