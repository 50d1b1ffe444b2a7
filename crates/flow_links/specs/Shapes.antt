-- A program's edges in one direction: the shape over which its links stand, and what holds of it.
use Rattle.std.specs.Prelude.{◌≡◌, ◌↔◌, ℕ, ◌+◌, ◌-◌, ◌<◌, Bool, if◌then◌else◌}
use Rattle.tac_program.specs.Programs.{Program}
use Rattle.flow_graph.specs.Analyses.{shape_of}
use Rattle.flow_graph.specs.declared.edge.Edge.{Edge}
use Rattle.flow_graph.specs.declared.edge.Edge.TheVariants.{Call, Ret}
use Rattle.flow_graph.specs.Paths.{Shape, IsEdge, source_of, target_of}
use Rattle.flow_graph.specs.Reversals.{reversed_shape}
use Rattle.flow_graph.specs.WellFormed.{IsWellFormed}

-- a program, and whether its edges are reversed
pub record LinkedProgram : Type 0 where
  pub program : Program
  pub backward : Bool

-- the program's procedures, points and edges in that direction
abbrev pub directed_shape : LinkedProgram → Shape
directed_shape linked = if linked.backward then reversed_shape (shape_of linked.program) else shape_of linked.program

-- the point to which the calls of a site return: the next one in a program's own direction, the site's where it is reversed
abbrev pub after_site : Bool → ℕ → ℕ
after_site backward site = if backward then site else site + 1

-- the site of the calls from a point: the point in a program's own direction, the one before it where it is reversed
abbrev pub call_site : Bool → ℕ → ℕ
call_site backward x = if backward then x - 1 else x

-- Procedures, points and edges fit together; each number is of a point or of a procedure that is there, the calls from a
-- point are of one site, and each call of a site returns to one point.
pub record IsNumbered (shape : Shape) (backward : Bool) (points : ℕ) : Type 0 where
  pub formed : IsWellFormed shape
  pub entry_in_range : (procedure : ℕ) → procedure < shape.procedures → shape.entry procedure < points
  pub exit_in_range : (procedure : ℕ) → procedure < shape.procedures → shape.exit procedure < points
  pub procedure_in_range : (point : ℕ) → point < points → shape.procedure_of point < shape.procedures
  pub edge_in_range : (edge : Edge) → IsEdge shape edge → (source_of edge < points) × (target_of edge < points)
  pub one_site : (site x y : ℕ) → IsEdge shape (Call site x y) → site ≡ call_site backward x
  pub one_return : (site x y z : ℕ) → IsEdge shape (Call site x y)
      → IsEdge shape (Ret site (shape.exit (shape.procedure_of y)) z) ↔ (z ≡ after_site backward site)
