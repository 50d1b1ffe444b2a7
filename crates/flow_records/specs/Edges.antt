-- The edges of points, as numbers.
use Rattle.std.specs.Prelude.{◌≡◌, ℕ, ◌-◌, List, map, flat_map}
use Rattle.std.specs.List.{range_with_len}
use Rattle.flow_graph.specs.Edges.{edges_from}
use Rattle.flow_graph.specs.declared.edge.Edge.{Edge}
use Rattle.flow_graph.specs.declared.edge.Edge.TheVariants.{Step, Call, Ret}
use Rattle.flow_kept.specs.Facts.{ArePointsOf}
use Rattle.tac_program.specs.Programs.{Program}
use Rattle.flow_records.specs.Rooms.{IsListFault}
use Rattle.flow_records.specs.Numbers.{end_of}
use Rattle.flow_records.specs.declared.edges.NumberedEdge.{NumberedEdge}
use Rattle.flow_records.specs.declared.fault.Fault.{Fault}
use Rattle.flow_records.specs.declared.fault.Fault.TheVariants as fault

-- a step has no call's point
abbrev pub edge_part : Edge → NumberedEdge
edge_part (Step source target) = record { kind = 0; site = 4294967295; from = source; to = target }
edge_part (Call site source target) = record { kind = 1; site = site; from = source; to = target }
edge_part (Ret site source target) = record { kind = 2; site = site; from = source; to = target }

-- the edges out of the points from one on and before another
abbrev pub edges_between : Program → ℕ → ℕ → List NumberedEdge
edges_between program from until = map edge_part (flat_map (edges_from program) (range_with_len from (until - from)))

-- why they are not told in such room
abbrev pub IsEdgesFault : ℕ → ℕ → ℕ → ℕ → Program → Fault → Type 0
IsEdgesFault from until room size program fault.BadRange = ¬ (ArePointsOf program from (end_of program until))
IsEdgesFault from until room size program fault =
    IsListFault (λ edges. edges ≡ edges_between program from (end_of program until)) room size fault
