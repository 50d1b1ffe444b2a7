-- The call sites of each procedure.
use Rattle.std.specs.Prelude.{ℕ, List, length}
use Rattle.std.specs.List.{filter}
use Rattle.tac_program.specs.Programs.{Program}
use Rattle.flow_graph.specs.Edges.{calls}
use Rattle.flow_graph.specs.code.NumberLists.{AreLists}
use Rattle.flow_graph.specs.Points.{points}

-- the points whose statement may call a procedure, in their order
abbrev pub sites_of : Program → ℕ → List ℕ
sites_of program procedure = filter (λ site. calls program site procedure) (points program)

-- the call sites of each procedure
abbrev pub AreSites : Program → List (List ℕ) → Type 0
AreSites program lists = AreLists lists (length program.procedures) (sites_of program)
