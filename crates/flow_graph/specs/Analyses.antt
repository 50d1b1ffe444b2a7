-- The four analyses of a program, over its valid paths.
use Rattle.std.specs.Prelude.{ℕ, Bool, true, false, length, codes}
use Rattle.tac_program.specs.Programs.{Program, number_of}
use Rattle.flow_graph.specs.Paths.{Shape, Transfer, HasPath, SomePathHas, EveryPathHas, HasBackwardPath, SomeBackwardPathHas, EveryBackwardPathHas}
use Rattle.flow_graph.specs.Points.{entry_point, end_point, procedure_at}
use Rattle.flow_graph.specs.Edges.{edges}
use Rattle.flow_graph.specs.Universes.{Analysis, Reach, Live, Avail, Busy}
use Rattle.flow_graph.specs.Transfers.{gens, kills, is_in_boundary}

abbrev pub main_procedure : Program → ℕ
main_procedure program = number_of program.procedure_names (codes "main")

-- the procedures, points and edges of a program; it begins at the entry of `main`
abbrev pub shape_of : Program → Shape
shape_of program = record {
  root_procedure = main_procedure program;
  procedures = length program.procedures;
  entry = entry_point program;
  exit = end_point program;
  procedure_of = procedure_at program;
  edges = edges program;
}

-- one bit of an analysis: a step has the gen and kill of the statement at its beginning
abbrev pub transfer_of : Program → Analysis → ℕ → Transfer
transfer_of program analysis bit = record {
  gen = λ x y. gens program analysis x bit;
  kill = λ x y. kills program analysis x bit;
  boundary = is_in_boundary program analysis bit;
}

-- Whether the analysis has a valid path at the point: from the beginning of `main` to it, or from it to the end of `main`.
abbrev pub HasPathAt : Program → Analysis → ℕ → Type 0
HasPathAt program Reach point = HasPath (shape_of program) point
HasPathAt program Avail point = HasPath (shape_of program) point
HasPathAt program Live point = HasBackwardPath (shape_of program) point
HasPathAt program Busy point = HasBackwardPath (shape_of program) point

-- The table of an analysis: the bits in its set at a point. They are the meet over the valid paths there: what some path has
-- for reaching definitions and live variables, and what every path has for available and very busy expressions (Kildall 1973).
abbrev pub IsInTable : Program → Analysis → ℕ → ℕ → Type 0
IsInTable program Reach point bit = SomePathHas (shape_of program) (transfer_of program Reach bit) point
IsInTable program Live point bit = SomeBackwardPathHas (shape_of program) (transfer_of program Live bit) point
IsInTable program Avail point bit = EveryPathHas (shape_of program) (transfer_of program Avail bit) point
IsInTable program Busy point bit = EveryBackwardPathHas (shape_of program) (transfer_of program Busy bit) point

abbrev pub is_backward : Analysis → Bool
is_backward Reach = false
is_backward Live = true
is_backward Avail = false
is_backward Busy = true

abbrev pub is_must : Analysis → Bool
is_must Reach = false
is_must Live = false
is_must Avail = true
is_must Busy = true
