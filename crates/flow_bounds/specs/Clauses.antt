-- The summary equations of a bit over some procedures of a program, as clauses over cells.
--
-- Of the procedures inside, each point has two cells, whether the bit is preserved up to it from its procedure's entry, and whether it is
-- generated on the way; and each procedure has one, whether the bit is brought to it. All other procedures together have two, whether one of
-- them hands the bit out generated, and whether it is brought to one. A last cell has each bit (Reps, Horwitz, Sagiv 1995).
use Rattle.std.specs.Prelude.{◌≡◌, ◌+◌, ◌*◌, ◌<◌, ℕ, Bool, true, false, length, slice_index, slice_index_or, if◌then◌else◌}
use Rattle.bit_rows.specs.Words.{has_bit}
use Rattle.flow_graph.specs.declared.edge.Edge.TheVariants.{Step}
use Rattle.flow_graph.specs.Paths.{Shape, IsEdge}
use Rattle.flow_links.specs.Shapes.{directed_shape}
use Rattle.summary_equations.specs.Equations.{CallsAt, ReturnsTo}
use Rattle.flow_bounds.specs.declared.frame.Frame.{Frame}

-- the shape of a frame's program in its direction
abbrev pub shape_in : Frame → Shape
shape_in frame = directed_shape frame.links.now

-- a procedure that is inside, a point of one, and a point whose edges are looked at
abbrev pub is_inside : Frame → ℕ → Bool
is_inside frame procedure = slice_index_or frame.inside.now procedure false

abbrev pub IsPointInside : Frame → ℕ → Type 0
IsPointInside frame x = is_inside frame ((shape_in frame).procedure_of x) ≡ true

abbrev pub IsTaken : Frame → ℕ → Type 0
IsTaken frame x = slice_index_or frame.taken.now x false ≡ true

-- the cells
abbrev pub preserved_cell : Frame → ℕ → ℕ
preserved_cell frame x = slice_index frame.places.now x

abbrev pub generated_cell : Frame → ℕ → ℕ
generated_cell frame x = length frame.points.now + slice_index frame.places.now x

abbrev pub brought_cell : Frame → ℕ → ℕ
brought_cell frame procedure = 2 * length frame.points.now + procedure

abbrev pub outside_generated_cell : Frame → ℕ
outside_generated_cell frame = 2 * length frame.points.now + length frame.inside.now

abbrev pub outside_brought_cell : Frame → ℕ
outside_brought_cell frame = 2 * length frame.points.now + length frame.inside.now + 1

abbrev pub always_cell : Frame → ℕ
always_cell frame = 2 * length frame.points.now + length frame.inside.now + 2

abbrev pub cell_count : Frame → ℕ
cell_count frame = 2 * length frame.points.now + length frame.inside.now + 3

-- the point of a step's statement: its beginning in a program's own direction, its end where it is reversed
abbrev pub step_statement : Bool → ℕ → ℕ → ℕ
step_statement backward x y = if backward then y else x

-- whether the step of a statement generates the bit, or kills it
abbrev pub step_gens : Frame → ℕ → ℕ → ℕ → Bool
step_gens frame x y bit = has_bit (slice_index frame.gens.now (slice_index frame.places.now (step_statement frame.links.now.backward x y))) bit

abbrev pub step_kills : Frame → ℕ → ℕ → ℕ → Bool
step_kills frame x y bit = has_bit (slice_index frame.kills.now (slice_index frame.places.now (step_statement frame.links.now.backward x y))) bit

-- what is known of a procedure outside: whether its calls preserve the bit, and whether they may lead back to one inside
abbrev pub lets_through : Frame → ℕ → ℕ → Bool
lets_through frame procedure bit = has_bit (slice_index frame.through.now procedure) bit

abbrev pub leads_back : Frame → ℕ → Bool
leads_back frame procedure = slice_index_or frame.leads.now procedure false

-- and of one inside, whether procedures outside call it
abbrev pub is_called : Frame → ℕ → Bool
is_called frame procedure = slice_index_or frame.called.now procedure false

-- Clauses: the bit of the first cell follows from those of the two others. Of a step,
pub data StepClause (frame : Frame) (x y bit : ℕ) : ℕ → ℕ → ℕ → Type 0 where
  preserved_by_step : step_kills frame x y bit ≡ false
      → StepClause frame x y bit (preserved_cell frame y) (preserved_cell frame x) (always_cell frame)
  generated_before_step : step_kills frame x y bit ≡ false
      → StepClause frame x y bit (generated_cell frame y) (generated_cell frame x) (always_cell frame)
  generated_by_step : step_gens frame x y bit ≡ true
      → StepClause frame x y bit (generated_cell frame y) (always_cell frame) (always_cell frame)

-- of a call of a procedure inside, at a point of a procedure, with the point behind it,
pub data InnerClause (frame : Frame) (x callee z bit : ℕ) : ℕ → ℕ → ℕ → Type 0 where
  preserved_by_call : InnerClause frame x callee z bit (preserved_cell frame z) (preserved_cell frame x)
      (preserved_cell frame ((shape_in frame).exit callee))
  generated_before_call : InnerClause frame x callee z bit (generated_cell frame z) (generated_cell frame x)
      (preserved_cell frame ((shape_in frame).exit callee))
  generated_by_callee : InnerClause frame x callee z bit (generated_cell frame z) (generated_cell frame ((shape_in frame).exit callee))
      (always_cell frame)
  brought_where_generated : InnerClause frame x callee z bit (brought_cell frame callee) (generated_cell frame x) (always_cell frame)
  brought_where_preserved : InnerClause frame x callee z bit (brought_cell frame callee)
      (brought_cell frame ((shape_in frame).procedure_of x)) (preserved_cell frame x)

-- of a call of one outside,
pub data OuterClause (frame : Frame) (x callee z bit : ℕ) : ℕ → ℕ → ℕ → Type 0 where
  preserved_past : lets_through frame callee bit ≡ true
      → OuterClause frame x callee z bit (preserved_cell frame z) (preserved_cell frame x) (always_cell frame)
  generated_past : lets_through frame callee bit ≡ true
      → OuterClause frame x callee z bit (generated_cell frame z) (generated_cell frame x) (always_cell frame)
  generated_outside : leads_back frame callee ≡ true
      → OuterClause frame x callee z bit (generated_cell frame z) (outside_generated_cell frame) (always_cell frame)
  brought_outside_where_generated : leads_back frame callee ≡ true
      → OuterClause frame x callee z bit (outside_brought_cell frame) (generated_cell frame x) (always_cell frame)
  brought_outside_where_preserved : leads_back frame callee ≡ true
      → OuterClause frame x callee z bit (outside_brought_cell frame) (brought_cell frame ((shape_in frame).procedure_of x)) (preserved_cell frame x)

-- of a procedure inside: at its entry each bit is preserved, some are brought to it for a reason that is known, and where procedures outside
-- call it they hand out what it generates, and what is brought to them is brought to it;
pub data ProcedureClause (frame : Frame) (procedure bit : ℕ) : ℕ → ℕ → ℕ → Type 0 where
  preserved_at_entry : ProcedureClause frame procedure bit (preserved_cell frame ((shape_in frame).entry procedure)) (always_cell frame) (always_cell frame)
  brought_by_tree : has_bit (slice_index frame.hung.now procedure) bit ≡ true
      → ProcedureClause frame procedure bit (brought_cell frame procedure) (always_cell frame) (always_cell frame)
  handed_out : is_called frame procedure ≡ true
      → ProcedureClause frame procedure bit (outside_generated_cell frame) (generated_cell frame ((shape_in frame).exit procedure)) (always_cell frame)
  brought_from_outside : is_called frame procedure ≡ true
      → ProcedureClause frame procedure bit (brought_cell frame procedure) (outside_brought_cell frame) (always_cell frame)

-- of the root, and of the procedures outside.
pub data RootClause (frame : Frame) (bit : ℕ) : ℕ → ℕ → ℕ → Type 0 where
  brought_by_boundary : has_bit frame.boundary bit ≡ true → is_inside frame (shape_in frame).root_procedure ≡ true
      → RootClause frame bit (brought_cell frame (shape_in frame).root_procedure) (always_cell frame) (always_cell frame)
  brought_outside_by_boundary : has_bit frame.boundary bit ≡ true → frame.joined ≡ true
      → RootClause frame bit (outside_brought_cell frame) (always_cell frame) (always_cell frame)
  brought_outside_where_handed_out : frame.joined ≡ true
      → RootClause frame bit (outside_brought_cell frame) (outside_generated_cell frame) (always_cell frame)

-- All clauses of a frame: of the steps and calls at points that are looked at.
pub data Clause (frame : Frame) (bit to first second : ℕ) : Type 0 where
  of_step : (x y : ℕ) → IsEdge (shape_in frame) (Step x y) → IsPointInside frame x → IsTaken frame x
      → StepClause frame x y bit to first second → Clause frame bit to first second
  of_inner : (site x callee z : ℕ) → CallsAt (shape_in frame) site x callee → ReturnsTo (shape_in frame) site callee z → IsPointInside frame x
      → IsTaken frame x → is_inside frame callee ≡ true → InnerClause frame x callee z bit to first second → Clause frame bit to first second
  of_outer : (site x callee z : ℕ) → CallsAt (shape_in frame) site x callee → ReturnsTo (shape_in frame) site callee z → IsPointInside frame x
      → IsTaken frame x → is_inside frame callee ≡ false → OuterClause frame x callee z bit to first second → Clause frame bit to first second
  of_procedure : (procedure : ℕ) → procedure < (shape_in frame).procedures → is_inside frame procedure ≡ true
      → ProcedureClause frame procedure bit to first second → Clause frame bit to first second
  of_root : RootClause frame bit to first second → Clause frame bit to first second
