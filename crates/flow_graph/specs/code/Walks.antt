-- A walk over the points of a program, which stands at one of them, or past the last.
use Rattle.std.specs.Prelude.{ℕ}
use Rattle.tac_program.specs.Programs.{Program}

pub record WalkAt : Type 0 where
  pub program : Program
  pub point : ℕ
