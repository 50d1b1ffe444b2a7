-- Steps by the statements that they are of
use Rattle.std.proofs.Common.{◌≡◌, ◌<◌, ℕ, Bool, true, false, List, [], ◌∷◌, Contains, nat_eq, ◌||◌, refl, sym, ◌∙◌, ap, subst, if◌then◌else◌}
use Rattle.std.proofs.Common.{arith}
use Rattle.std.specs.List.{list_any}
use Rattle.tac_program.specs.Programs.{Program}
use Rattle.tac_program.specs.Sound.{IsSound}
use Rattle.flow_graph.specs.Analyses.{shape_of}
use Rattle.flow_graph.specs.Edges.{edges, edges_from}
use Rattle.flow_graph.specs.Paths.{IsEdge, source_of}
use Rattle.flow_graph.specs.Points.{point_count}
use Rattle.flow_graph.specs.Reversals.{reversed_edge, reversed_shape}
use Rattle.flow_graph.specs.declared.edge.Edge.{Edge}
use Rattle.flow_graph.specs.declared.edge.Edge.TheVariants.{Step, Call, Ret}
use Rattle.flow_graph.proofs.edges.EdgeLemmas.{any_of, edges_are, edges_from_are, leaves, source_is}
use Rattle.flow_graph.proofs.lists.Membership.{Contains-first, Contains-later}
use Rattle.flow_graph.proofs.paths.Reversal.{Contains-map, edge_back}
use Rattle.flow_graph.specs.Analyses.{is_backward}
use Rattle.flow_graph.specs.Problems.{may_gens, may_transfer}
use Rattle.flow_graph.specs.declared.analysis.Analysis.{Analysis}
use Rattle.flow_graph.specs.declared.analysis.Analysis.TheVariants.{Reach, Live, Avail, Busy}
use Rattle.flow_links.specs.Shapes.{LinkedProgram, directed_shape}
use Rattle.gen_kill.specs.Selections.{Selection, bit_of, column_gens}
use Rattle.flow_why.specs.PointBits.{StatementBit, step_statement}
use Rattle.flow_why.specs.code.Frames.{GeneratesAt, IsColumnFrame, IsFrame, IsPointFrame, question_of, step_begin, step_end}
use Rattle.flow_why.specs.code.Frames.{transfer_for, transfer_of_asked}
use Rattle.flow_why.specs.code.Found.{Found}
use Rattle.flow_why.specs.code.Visits.{AreGensVisited, IsEdgeGenVisited, IsGenVisited, IsStatementGenVisited}
use Rattle.flow_why.specs.declared.frame.Asked.TheVariants.{Paths}
use Rattle.flow_why.specs.declared.frame.Frame.{Frame}
use Rattle.flow_why.proofs.visits.Reasons.{statement_low}

-- a number that passes a test of equality stands in the list
pub among_of_any : (x : ℕ) (xs : List ℕ) → list_any (nat_eq x) xs ≡ true → Contains xs x
among_of_any x [] never = absurd (cc never)
among_of_any x (y ∷ ys) any = by_test (nat_eq x y) refl any (among_of_any x ys)
  where
    by_test : (b : Bool) → nat_eq x y ≡ b → b || list_any (nat_eq x) ys ≡ true → (list_any (nat_eq x) ys ≡ true → Contains ys x)
        → Contains (y ∷ ys) x
    by_test true is any rest = let same : x ≡ y = grind arith in subst (Contains (y ∷ ys)) (sym same) (Contains-first y ys)
    by_test false is any rest = Contains-later y ys x (rest any)

-- a program's step, in a direction
step_in : (program : Program) (b : Bool) (x y : ℕ) → Contains (edges program) (Step x y)
    → IsEdge (if b then reversed_shape (shape_of program) else shape_of program) (Step (step_begin b x y) (step_end b x y))
step_in program true x y at = Contains-map reversed_edge (edges program) (Step x y) at
step_in program false x y at = at

pub step_there : (linked : LinkedProgram) (x y : ℕ) → Contains (edges linked.program) (Step x y)
    → IsEdge (directed_shape linked) (Step (step_begin linked.backward x y) (step_end linked.backward x y))
step_there linked x y at = step_in linked.program linked.backward x y at

pub statement_is : (b : Bool) (x y : ℕ) → step_statement b (step_begin b x y) (step_end b x y) ≡ x
statement_is true x y = refl
statement_is false x y = refl

-- the program's step of one in a direction
step_back : (program : Program) (b : Bool) (x y : ℕ) → IsEdge (if b then reversed_shape (shape_of program) else shape_of program) (Step x y)
    → Contains (edges program) (Step (step_begin b x y) (step_end b x y))
step_back program true x y edge = edge_back (shape_of program) (Step x y) edge
step_back program false x y edge = edge

begin_is : (b : Bool) (x y : ℕ) → step_begin b x y ≡ step_statement b x y
begin_is true x y = refl
begin_is false x y = refl

pub step_listed : (linked : LinkedProgram) → IsSound linked.program → (x y point : ℕ) → IsEdge (directed_shape linked) (Step x y)
    → step_statement linked.backward x y ≡ point
    → Contains (edges_from linked.program point) (Step (step_begin linked.backward x y) (step_end linked.backward x y))
step_listed linked sound x y point edge same =
    let b = linked.backward in
    let step : Edge = Step (step_begin b x y) (step_end b x y) in
    let (at, below, here, is) = edges_are linked.program sound step (step_back linked.program b x y edge) in
    let same_point : at ≡ point = sym (source_is linked.program at step is) ∙ (begin_is b x y ∙ same) in
    subst (λ n. Contains (edges_from linked.program n) step) same_point here

-- the ends turned twice
pub turned : (b : Bool) (P : ℕ → ℕ → Type 0) (x y : ℕ) → P (step_begin b (step_begin b x y) (step_end b x y)) (step_end b (step_begin b x y)
    (step_end b x y)) → P x y
turned true P x y holds = holds
turned false P x y holds = holds

-- an edge out of a point is an edge, and leaves it
pub edge_there : (program : Program) (point : ℕ) (edge : Edge) → point < point_count program → Contains (edges_from program point) edge
    → Contains (edges program) edge
edge_there program point edge below at = leaves program point edge below at

pub edge_source : (program : Program) → IsSound program → (point : ℕ) (edge : Edge) → point < point_count program
    → Contains (edges_from program point) edge → source_of edge ≡ point
edge_source program sound point edge below at = source_is program point edge (edges_from_are program sound point edge below at)

module _ (frame : Frame) (is : IsFrame frame) where
  -- a statement that is not there has no steps
  pub no_statement : (point : ℕ) (found : Found) → (point < point_count frame.links.now.program → ⊥) → IsStatementGenVisited frame point found
  no_statement point found none x y edge same =
      absurd (none (subst (λ n. n < point_count frame.links.now.program) same (statement_low frame is x y frame.links.now.backward edge)))

  -- all edges out of a point were gone over
  pub statement_visited : (point : ℕ) (found : Found) → IsSound frame.links.now.program
      → ((edge : Edge) → Contains (edges_from frame.links.now.program point) edge → IsEdgeGenVisited frame edge found)
      → IsStatementGenVisited frame point found
  statement_visited point found sound each x y edge same =
      turned frame.links.now.backward (λ x y. IsGenVisited (question_of frame) x y found) x y
      (each _ (step_listed frame.links.now sound x y point edge same))

  -- where nothing is asked nothing is generated
  pub paths_visited : (found : Found) → frame.asked ≡ Paths → AreGensVisited (question_of frame) found
  paths_visited found none x y edge c gens based =
      absurd (cc (gens, ap (λ a. (transfer_of_asked frame.links.now.backward a).gen x y) none))

  -- all statements were gone over that generate a bit of one's own
  module _ (program : Program) (bit : StatementBit) (points : IsPointFrame frame program bit) where
    pub generates : (point : ℕ) → Contains bit.gens point → GeneratesAt frame point
    generates point among x y same =
        ap (λ t. t.gen x y) points.transfer
        ∙ any_of (step_statement frame.links.now.backward x y) bit.gens (subst (Contains bit.gens) (sym same) among)

    pub statements_visited : (found : Found) → ((point : ℕ) → Contains bit.gens point → IsStatementGenVisited frame point found)
        → AreGensVisited (question_of frame) found
    statements_visited found each x y edge c gens based =
        let s = step_statement frame.links.now.backward x y in
        each s (among_of_any s bit.gens (sym (ap (λ t. t.gen x y) points.transfer) ∙ gens)) x y edge refl c gens based

pub statement_visited_on : (frame : Frame) (point : ℕ) (d e : Found) → ((x y : ℕ) → IsGenVisited (question_of frame) x y d
    → IsGenVisited (question_of frame) x y e) → IsStatementGenVisited frame point d → IsStatementGenVisited frame point e
statement_visited_on frame point d e on each x y edge same = on x y (each x y edge same)

pub edge_visited_on : (frame : Frame) (edge : Edge) (d e : Found) → ((x y : ℕ) → IsGenVisited (question_of frame) x y d
    → IsGenVisited (question_of frame) x y e) → IsEdgeGenVisited frame edge d → IsEdgeGenVisited frame edge e
edge_visited_on frame (Step x y) d e on visited = on _ _ visited
edge_visited_on frame (Call site x y) d e on visited = tt
edge_visited_on frame (Ret site x y) d e on visited = tt

-- a column's step by its statement
gen_by : (program : Program) (analysis : Analysis) (bit x y : ℕ)
    → (may_transfer program analysis bit).gen x y
    ≡ may_gens (record { program = program; analysis = analysis }) (step_statement (is_backward analysis) x y) bit
gen_by program Reach bit x y = refl
gen_by program Live bit x y = refl
gen_by program Avail bit x y = refl
gen_by program Busy bit x y = refl

pub column_gen : (frame : Frame) (form : Selection) (column : ℕ) → IsColumnFrame frame form column → (b : Bool) → b ≡ frame.links.now.backward
    → (x y : ℕ) → (transfer_for frame).gen x y ≡ column_gens form (step_statement b x y) column
column_gen frame form column is b same x y =
    ap (λ t. t.gen x y) is.transfer
    ∙ (gen_by form.program form.analysis (bit_of form column) x y
    ∙ ap (λ d. column_gens form (step_statement d x y) column) (sym (same ∙ ap (λ (l : LinkedProgram). l.backward) is.linked)))
