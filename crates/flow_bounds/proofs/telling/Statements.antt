-- The point of a step's statement is inside
use Rattle.std.proofs.Common.{◌≡◌, ◌<◌, ℕ, Bool, true, false, subst}
use Rattle.flow_graph.specs.declared.edge.Edge.TheVariants.{Step}
use Rattle.flow_graph.specs.Paths.{IsEdge}
use Rattle.flow_graph.specs.Points.{point_count}
use Rattle.flow_bounds.specs.Clauses.{IsPointInside, is_inside, shape_in, step_statement}
use Rattle.flow_bounds.specs.code.Frames.{IsFrame}
use Rattle.flow_bounds.specs.declared.frame.Frame.{Frame}

-- a point inside
abbrev pub IsHere : Frame → ℕ → Type 0
IsHere frame x = (x < point_count frame.links.now.program) × IsPointInside frame x

either_end : (backward : Bool) (P : ℕ → Type 0) (x y : ℕ) → P x → P y → P (step_statement backward x y)
either_end true P x y at_x at_y = at_y
either_end false P x y at_x at_y = at_x

pub ends_here : (frame : Frame) (x y : ℕ) → IsFrame frame → IsEdge (shape_in frame) (Step x y) → IsPointInside frame x → IsHere frame x × IsHere frame y
ends_here frame x y is_frame edge inside =
    let range = is_frame.numbered.edge_in_range (Step x y) edge in
    ((range.0, inside), (range.1, subst (λ p. is_inside frame p ≡ true) (is_frame.numbered.formed.step_inside x y edge) inside))

pub statement_here : (frame : Frame) (x y : ℕ) → IsFrame frame → IsEdge (shape_in frame) (Step x y) → IsPointInside frame x
    → IsHere frame (step_statement frame.links.now.backward x y)
statement_here frame x y is_frame edge inside =
    let ends = ends_here frame x y is_frame edge inside in
    either_end frame.links.now.backward (IsHere frame) x y ends.0 ends.1
