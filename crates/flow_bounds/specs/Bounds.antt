-- When a frame's clauses bound a bit from above, and when from below.
use Rattle.std.specs.Prelude.{◌≡◌, ◌<◌, ℕ, Bool, true, false, ◌&&◌, ◌||◌, List, slice_index}
use Rattle.bit_rows.specs.Words.{has_bit}
use Rattle.flow_graph.specs.declared.edge.Edge.TheVariants.{Step}
use Rattle.flow_graph.specs.Paths.{IsEdge, Transfer}
use Rattle.flow_graph.specs.Points.{point_count}
use Rattle.solution_bounds.specs.Quotients.{Quotient}
use Rattle.summary_equations.specs.Equations.{Brought, CallsAt, Entered, HasFlag, Preserved}
use Rattle.flow_bounds.specs.Clauses.{IsPointInside, IsTaken, brought_cell, generated_cell, is_called, is_inside, leads_back, lets_through, preserved_cell}
use Rattle.flow_bounds.specs.Clauses.{outside_brought_cell, outside_generated_cell, shape_in, step_gens, step_kills}
use Rattle.flow_bounds.specs.declared.frame.Frame.{Frame}

-- The clauses are those of a transfer or more: all edges are looked at, no statement outside generates the bit, a call of a procedure outside
-- preserves it, and leads back wherever calls do; those outside are taken as one.
pub record IsAbove (frame : Frame) (transfer : Transfer) (bit : ℕ) : Type 0 where
  pub joined : frame.joined ≡ true
  pub taken : (x : ℕ) → x < point_count frame.links.now.program → IsPointInside frame x → IsTaken frame x
  pub gens : (x y : ℕ) → IsEdge (shape_in frame) (Step x y) → IsPointInside frame x → transfer.gen x y ≡ true → step_gens frame x y bit ≡ true
  pub kills : (x y : ℕ) → IsEdge (shape_in frame) (Step x y) → IsPointInside frame x → transfer.kill x y ≡ false → step_kills frame x y bit ≡ false
  pub outside : (x y : ℕ) → IsEdge (shape_in frame) (Step x y) → is_inside frame ((shape_in frame).procedure_of x) ≡ false → transfer.gen x y ≡ false
  pub boundary : transfer.boundary ≡ true → has_bit frame.boundary bit ≡ true
  pub through : (procedure : ℕ) → procedure < (shape_in frame).procedures → lets_through frame procedure bit ≡ true
  pub called : (site x procedure : ℕ) → CallsAt (shape_in frame) site x procedure → is_inside frame ((shape_in frame).procedure_of x) ≡ false
      → is_inside frame procedure ≡ true → is_called frame procedure ≡ true
  pub leads : (site x procedure : ℕ) → CallsAt (shape_in frame) site x procedure → (is_inside frame procedure || leads_back frame procedure) ≡ true
      → leads_back frame ((shape_in frame).procedure_of x) ≡ true

-- The clauses are those of a transfer or fewer: only edges on valid paths are looked at; of procedures outside it is only known that some preserve the
-- bit, and nothing comes from them.
pub record IsBelow (frame : Frame) (transfer : Transfer) (bit : ℕ) : Type 0 where
  pub joined : frame.joined ≡ false
  pub taken : (x : ℕ) → IsTaken frame x → HasFlag (shape_in frame) x
  pub gens : (x y : ℕ) → IsEdge (shape_in frame) (Step x y) → IsPointInside frame x → step_gens frame x y bit ≡ true → transfer.gen x y ≡ true
  pub kills : (x y : ℕ) → IsEdge (shape_in frame) (Step x y) → IsPointInside frame x → step_kills frame x y bit ≡ false → transfer.kill x y ≡ false
  pub boundary : has_bit frame.boundary bit ≡ true → transfer.boundary ≡ true
  pub through : (procedure : ℕ) → procedure < (shape_in frame).procedures → lets_through frame procedure bit ≡ true
      → Preserved (shape_in frame) transfer.kill ((shape_in frame).exit procedure)
  pub called : (procedure : ℕ) → is_called frame procedure ≡ false
  pub leads : (procedure : ℕ) → leads_back frame procedure ≡ false
  pub hung : (procedure : ℕ) → has_bit (slice_index frame.hung.now procedure) bit ≡ true
      → Entered (shape_in frame) procedure × Brought (shape_in frame) transfer procedure

-- what words say of a bit at a point, as `IsInSolution` has it of the least solution
abbrev pub is_in_words : Frame → List ℕ → ℕ → ℕ → Bool
is_in_words frame words x bit =
    has_bit (slice_index words (generated_cell frame x)) bit
    || (has_bit (slice_index words (brought_cell frame ((shape_in frame).procedure_of x))) bit && has_bit (slice_index words (preserved_cell frame x)) bit)

-- the quotient for which words stand at a bit
abbrev pub quotient_of : Frame → List ℕ → ℕ → Quotient
quotient_of frame words bit = record {
  inside = is_inside frame;
  leads = leads_back frame;
  preserved = λ x. has_bit (slice_index words (preserved_cell frame x)) bit;
  generated = λ x. has_bit (slice_index words (generated_cell frame x)) bit;
  brought = λ p. has_bit (slice_index words (brought_cell frame p)) bit;
  outside_generates = has_bit (slice_index words (outside_generated_cell frame)) bit;
  outside_brought = has_bit (slice_index words (outside_brought_cell frame)) bit;
}
