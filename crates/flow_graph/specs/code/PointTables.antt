-- How the tables of points stand for a program.
use Rattle.std.specs.Prelude.{◌≡◌, ◌<◌, ℕ, List, length, get_or}
use Rattle.tac_program.specs.Programs.{Program}
use Rattle.flow_graph.specs.Points.{first_point, point_count, procedure_at}

-- the first point of each procedure
pub record AreFirstPoints (program : Program) (firsts : List ℕ) : Type 0 where
  pub count : length firsts ≡ length program.procedures
  pub each : (procedure d : ℕ) → procedure < length program.procedures → get_or firsts procedure d ≡ first_point program procedure

-- the procedure of each point
pub record AreProcedures (program : Program) (procedures : List ℕ) : Type 0 where
  pub count : length procedures ≡ point_count program
  pub each : (point d : ℕ) → point < point_count program → get_or procedures point d ≡ procedure_at program point
