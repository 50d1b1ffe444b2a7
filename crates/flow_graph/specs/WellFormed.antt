-- What holds of a problem's procedures, points and edges, and where two problems are alike.
use Rattle.std.specs.Prelude.{◌≡◌, ◌↔◌, ℕ, ◌<◌}
use Rattle.flow_graph.specs.Paths.{Edge, Step, Call, Ret, Shape, Transfer, IsEdge, root, final}

-- Procedures, points and edges fit together: an entry and an exit lie in their procedure, a step stays in its procedure,
-- a call ends at an entry, a return begins at an exit, and the call and the returns of one site lie in one procedure.
pub record IsWellFormed (shape : Shape) : Type 0 where
  pub root_in_range : shape.root_procedure < shape.procedures
  pub entry_inside : (procedure : ℕ) → procedure < shape.procedures → shape.procedure_of (shape.entry procedure) ≡ procedure
  pub exit_inside : (procedure : ℕ) → procedure < shape.procedures → shape.procedure_of (shape.exit procedure) ≡ procedure
  pub step_inside : (x y : ℕ) → IsEdge shape (Step x y) → shape.procedure_of x ≡ shape.procedure_of y
  pub call_to_entry : (site x y : ℕ) → IsEdge shape (Call site x y)
      → (shape.procedure_of y < shape.procedures) × (y ≡ shape.entry (shape.procedure_of y))
  pub return_from_exit : (site x y : ℕ) → IsEdge shape (Ret site x y)
      → (shape.procedure_of x < shape.procedures) × (x ≡ shape.exit (shape.procedure_of x))
  pub site_inside : (site x y u z : ℕ) → IsEdge shape (Call site x y) → IsEdge shape (Ret site u z) → shape.procedure_of x ≡ shape.procedure_of z

-- Two shapes agree in all that paths speak of: where they begin, where they end, and the edges, in whatever order.
pub record HasSameEdges (first second : Shape) : Type 0 where
  pub same_root : root first ≡ root second
  pub same_final : final first ≡ final second
  pub same_edges : (edge : Edge) → IsEdge first edge ↔ IsEdge second edge

-- Two transfers agree in all that a problem asks of them: gen and kill of the steps that are edges, and the boundary.
pub record AgreesOnSteps (shape : Shape) (first second : Transfer) : Type 0 where
  pub same_gen : (x y : ℕ) → IsEdge shape (Step x y) → first.gen x y ≡ second.gen x y
  pub same_kill : (x y : ℕ) → IsEdge shape (Step x y) → first.kill x y ≡ second.kill x y
  pub same_boundary : first.boundary ≡ second.boundary
