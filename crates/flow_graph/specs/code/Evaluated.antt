-- How numbers of expressions stand for expressions.
use Rattle.std.specs.Prelude.{◌≡◌, ℕ, List, Option, Some, None, position, length, get_or, ◌<◌}
use Rattle.tac_program.specs.Programs.{Program}
use Rattle.flow_graph.specs.Points.{point_count}
use Rattle.flow_graph.specs.Universes.{Expr, evaluated_at, same_expression}

-- the number of an expression among those that are known, or none of none
abbrev pub IsNumberOf : List Expr → Option Expr → Option ℕ → Type 0
IsNumberOf known None number = number ≡ None
IsNumberOf known (Some e) number = (n : ℕ) × (number ≡ Some n) × (position (same_expression e) known ≡ Some n)

-- the number of the expression of each point
pub record AreEvaluated (program : Program) (evaluated : List (Option ℕ)) : Type 0 where
  pub count : length evaluated ≡ point_count program
  pub each : (point : ℕ) (d : Option ℕ) → point < point_count program → get_or evaluated point d ≡ evaluated_at program point
