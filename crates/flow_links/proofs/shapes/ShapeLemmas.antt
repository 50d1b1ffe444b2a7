-- The points, procedures and edges of a program, in either direction
use Rattle.std.proofs.Common.{◌≡◌, ℕ, ◌<◌, ◌≤◌, Bool, true, false, List, length, get_or, map, refl, ap, subst, ◌∙◌, arith}
use Rattle.std.proofs.lemmas.List.{length-map, get_or-map}
use Rattle.std.proofs.lemmas.List.Elements.{All-contains_itself}
use Rattle.tac_program.specs.Programs.{Program}
use Rattle.tac_program.specs.Sound.{IsSound}
use Rattle.flow_graph.specs.Analyses.{main_procedure, shape_of, is_backward}
use Rattle.flow_graph.specs.Problems.{may_shape}
use Rattle.flow_graph.specs.declared.edge.Edge.{Edge}
use Rattle.flow_graph.specs.declared.edge.Edge.TheVariants.{Step, Call, Ret}
use Rattle.flow_graph.specs.Paths.{IsEdge, source_of, target_of}
use Rattle.flow_graph.specs.Reversals.{reversed_edge, reversed_shape}
use Rattle.flow_graph.specs.Points.{point_count, procedure_at, entry_point}
use Rattle.flow_graph.specs.ProgramLaws.{IsPlaced}
use Rattle.flow_graph.specs.declared.analysis.Analysis.{Analysis}
use Rattle.flow_graph.specs.Limits.{HasFewPoints}
use Rattle.tac_program.specs.declared.limits.Limits.TheVariants.{Large}
use Rattle.flow_graph.proofs.graphs.GraphLaws.{graphs_are_well_formed, edges_join_points, entry_in, end_in, calls_return_behind_sites}
use Rattle.flow_graph.proofs.graphs.GraphLaws.{returns_have_calls_at_sites}
use Rattle.flow_graph.proofs.places.PointLemmas.{points_have_places}
use Rattle.flow_graph.proofs.paths.Reversal.{edge_reversed, edge_back, reversed_is_well_formed}
use Rattle.flow_links.specs.Tables.EdgeLists.{AreEdges, key_of, keys_of}
use Rattle.flow_links.specs.declared.list_kind.ListKind.{ListKind}
use Rattle.flow_links.specs.declared.list_kind.ListKind.TheVariants.{Steps, Calls, Callers, Sites}
use Rattle.flow_links.specs.Shapes.{directed_shape, IsNumbered}
use Rattle.flow_links.proofs.shapes.Sites.{sites_in}
use Rattle.tac_program.specs.Limits.{most_points, most_procedures}

-- the may form of each analysis has the shape of its direction
pub may_shape_is_directed : (program : Program) (analysis : Analysis)
    → may_shape program analysis ≡ directed_shape record { program = program; backward = is_backward analysis }
may_shape_is_directed program analysis = refl

turned_in_range : (program : Program) (edge : Edge) → IsPlaced program (reversed_edge edge)
    → (source_of edge < point_count program) × (target_of edge < point_count program)
turned_in_range program (Step x y) placed = (placed.target, placed.source)
turned_in_range program (Call site x y) placed = (placed.target, placed.source)
turned_in_range program (Ret site x y) placed = (placed.target, placed.source)

-- what the shape of either direction has of the program
pub same_procedures : (program : Program) (backward : Bool)
    → (directed_shape record { program = program; backward = backward }).procedures ≡ length program.procedures
same_procedures program true = refl
same_procedures program false = refl

pub same_root : (program : Program) (backward : Bool)
    → (directed_shape record { program = program; backward = backward }).root_procedure ≡ main_procedure program
same_root program true = refl
same_root program false = refl

pub same_procedure_of : (program : Program) (backward : Bool) (x : ℕ)
    → (directed_shape record { program = program; backward = backward }).procedure_of x ≡ procedure_at program x
same_procedure_of program true x = refl
same_procedure_of program false x = refl

module _ (program : Program) (sound : IsSound program) where
  graph_is_numbered : IsNumbered (shape_of program) false (point_count program)
  graph_is_numbered = record {
    formed = graphs_are_well_formed program sound;
    entry_in_range = λ procedure there. (entry_in program procedure there).below;
    exit_in_range = λ procedure there. (end_in program procedure there).below;
    procedure_in_range = λ point below. (points_have_places program point below).procedure;
    edge_in_range = λ edge is_edge. let placed = edges_join_points program sound edge is_edge in (placed.source, placed.target);
    one_site = sites_in program sound false;
    one_return = λ site x y z is_call.
        let law = calls_return_behind_sites program site x y z sound is_call in
        ((λ is_return. let e = law.0 is_return in omega (arith, e)), (λ same. law.1 (omega (arith, same))));
  }

  reversal_is_numbered : IsNumbered (reversed_shape (shape_of program)) true (point_count program)
  reversal_is_numbered = record {
    formed = reversed_is_well_formed (shape_of program) (graphs_are_well_formed program sound);
    entry_in_range = λ procedure there. (end_in program procedure there).below;
    exit_in_range = λ procedure there. (entry_in program procedure there).below;
    procedure_in_range = λ point below. (points_have_places program point below).procedure;
    edge_in_range = λ edge is_edge.
        turned_in_range program edge (edges_join_points program sound (reversed_edge edge) (edge_back (shape_of program) edge is_edge));
    one_site = sites_in program sound true;
    one_return = λ site x y z is_call.
        let law = returns_have_calls_at_sites program site y x z sound (edge_back (shape_of program) (Call site x y) is_call) in
        let first : ℕ = entry_point program (procedure_at program y) in (
          (λ is_return. law.0 (edge_back (shape_of program) (Ret site first z) is_return)),
          (λ same. edge_reversed (shape_of program) (Call site z first) (law.1 same)),
        );
  }

  -- the shape of either direction is numbered
  pub shapes_are_numbered : (backward : Bool)
      → IsNumbered (directed_shape record { program = program; backward = backward }) backward (point_count program)
  shapes_are_numbered true = reversal_is_numbered
  shapes_are_numbered false = graph_is_numbered

-- what holds of the numbers of a may form
pub record AreInRange (program : Program) (analysis : Analysis) : Type 0 where
  pub numbered : IsNumbered (may_shape program analysis) (is_backward analysis) (point_count program)
  pub few : point_count program ≤ most_points Large
  pub few_procedures : (may_shape program analysis).procedures ≤ most_procedures Large
  pub procedures_are : (may_shape program analysis).procedures ≡ length program.procedures
  pub procedure_is : (x : ℕ) → (may_shape program analysis).procedure_of x ≡ procedure_at program x
  pub root_is : (may_shape program analysis).root_procedure ≡ main_procedure program

pub in_range : (program : Program) (analysis : Analysis) → IsSound program → HasFewPoints Large program → AreInRange program analysis
in_range program analysis sound few = record {
  numbered = shapes_are_numbered program sound (is_backward analysis);
  few = few;
  few_procedures = let most = sound.few in let same = same_procedures program (is_backward analysis) in omega (arith, most, same);
  procedures_are = same_procedures program (is_backward analysis);
  procedure_is = same_procedure_of program (is_backward analysis);
  root_is = same_root program (is_backward analysis);
}

-- the ends of an edge
pub ends : {program : Program} {analysis : Analysis} → AreInRange program analysis → (edge other : Edge) → IsEdge (may_shape program analysis) edge
    → edge ≡ other
    → (source_of other < point_count program) × (target_of other < point_count program)
ends {program = program} {analysis = analysis} range edge other there is =
    range.numbered.edge_in_range other (subst (λ e. IsEdge (may_shape program analysis) e) is there)

-- the procedure of a point
pub procedure_low : {program : Program} {analysis : Analysis} → AreInRange program analysis → (x : ℕ) → x < point_count program
    → procedure_at program x < length program.procedures
procedure_low range x low =
    let is = range.procedure_is x in
    let inside = range.numbered.procedure_in_range x low in
    let count = range.procedures_are in
    omega (arith, is, inside, count)

-- the number at which an edge stands
pub key_low : {program : Program} {analysis : Analysis} → AreInRange program analysis → (kind : ListKind) (edge : Edge)
    → IsEdge (may_shape program analysis) edge
    → key_of kind (may_shape program analysis) (point_count program) edge ≤ keys_of kind (may_shape program analysis) (point_count program)
key_low range Steps (Step x y) there = let low = (range.numbered.edge_in_range (Step x y) there).0 in omega (arith, low)
key_low range Steps (Call site x y) there = omega arith
key_low range Steps (Ret site x y) there = omega arith
key_low range Calls (Step x y) there = omega arith
key_low range Calls (Call site x y) there = let low = (range.numbered.edge_in_range (Call site x y) there).0 in omega (arith, low)
key_low range Calls (Ret site x y) there = omega arith
key_low range Callers (Step x y) there = omega arith
key_low range Callers (Call site x y) there =
    let low = range.numbered.exit_in_range _ (range.numbered.formed.call_to_entry site x y there).0 in
    omega (arith, low)
key_low range Callers (Ret site x y) there = omega arith
key_low range Sites (Step x y) there = omega arith
key_low range Sites (Call site x y) there =
    let low = range.numbered.procedure_in_range x (range.numbered.edge_in_range (Call site x y) there).0 in
    omega (arith, low)
key_low range Sites (Ret site x y) there = omega arith

pub keys_few : {program : Program} {analysis : Analysis} → AreInRange program analysis → (kind : ListKind)
    → keys_of kind (may_shape program analysis) (point_count program) ≤ most_points Large
keys_few range Steps = range.few
keys_few range Calls = range.few
keys_few range Callers = range.few
keys_few range Sites = let few = range.few_procedures in omega (arith, few)

pub keys_low : {program : Program} {analysis : Analysis} → AreInRange program analysis → (kind : ListKind) (edges : List Edge)
    → AreEdges (may_shape program analysis) edges → (keys : List ℕ)
    → keys ≡ map (key_of kind (may_shape program analysis) (point_count program)) edges → (i : ℕ) → i < length keys
    → get_or keys i 0 ≤ keys_of kind (may_shape program analysis) (point_count program)
keys_low {program = program} {analysis = analysis} range kind edges all keys are i within =
    let count : length keys ≡ length edges = ap length are ∙ length-map edges (key_of kind (may_shape program analysis) (point_count program)) in
    let inside : i < length edges = omega (arith, count, within) in
    let is : get_or keys i 0 ≡ key_of kind (may_shape program analysis) (point_count program) (get_or edges i (Step 0 0)) =
    ap (λ ks. get_or ks i 0) are ∙ get_or-map (key_of kind (may_shape program analysis) (point_count program)) edges i (Step 0 0) 0 inside in
    let low = key_low range kind (get_or edges i (Step 0 0)) (all _ (All-contains_itself edges i (Step 0 0) inside)) in
    omega (arith, is, low)

pub link_is_call : {program : Program} {analysis : Analysis} {site x y : ℕ} → AreInRange program analysis → (edge : Edge)
    → IsEdge (may_shape program analysis) edge → edge ≡ Call site x y → IsEdge (may_shape program analysis) (Call site x y)
link_is_call {program = program} {analysis = analysis} range edge there is = subst (λ e. IsEdge (may_shape program analysis) e) is there
