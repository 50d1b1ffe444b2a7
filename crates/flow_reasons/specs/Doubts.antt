-- Where the doubt of a point comes from.
use Rattle.std.specs.Prelude.{◌<◌, ℕ, List}
use Rattle.tac_program.specs.Programs.{Program}
use Rattle.flow_graph.specs.Analyses.{shape_of}
use Rattle.flow_graph.specs.Paths.{IsPath, HasBackwardPath}
use Rattle.flow_graph.specs.Points.{point_count}
use Rattle.flow_graph.specs.declared.edge.Edge.{Edge}

-- Some path from the point, the empty one too and whichever call a return belongs to, leads to the origin, and no backward valid path
-- begins there: this makes the point doubtful.
pub record IsDoubtOrigin (program : Program) (point origin : ℕ) : Type 0 where
  pub below : origin < point_count program
  pub path : List Edge
  pub leads : IsPath (shape_of program) point path origin
  pub endless : ¬ (HasBackwardPath (shape_of program) origin)
