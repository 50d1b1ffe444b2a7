-- The labels that a jump at a point may name.
use Rattle.std.specs.Prelude.{ℕ, List, [], option_map, slice_get, unwrap_or}
use Rattle.tac_program.specs.Programs.{Program}
use Rattle.tac_program.specs.declared.program.Label.{Label}
use Rattle.flow_graph.specs.Points.{procedure_at}

-- the labels of a point's procedure
abbrev pub labels_at : Program → ℕ → List Label
labels_at program point = unwrap_or (option_map (λ p. p.labels) (slice_get program.procedures (procedure_at program point))) []
