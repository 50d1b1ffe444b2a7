-- Which variables hold the value of an expression.
use Rattle.std.specs.Prelude.{◌<◌, ℕ, false, ◌&&◌, ◌||◌, length}
use Rattle.tac_program.specs.Programs.{Program}
use Rattle.flow_graph.specs.Analyses.{shape_of}
use Rattle.flow_graph.specs.Paths.{Transfer, HasPath, EveryPathHas}
use Rattle.flow_graph.specs.Transfers.{gens, kills, writes}
use Rattle.flow_graph.specs.declared.analysis.Analysis.TheVariants.{Avail}

-- The bit that a variable holds an expression's value: made by an assignment of the expression to it that leaves the operands as they are,
-- and lost where the variable or an operand is written (available copies: Aho, Lam, Sethi, Ullman, 2nd edition, 9.1.4 and 9.2.6).
abbrev pub holding : Program → ℕ → ℕ → Transfer
holding program e variable = record {
  gen = λ x y. writes program x variable && gens program Avail x e;
  kill = λ x y. writes program x variable || kills program Avail x e;
  boundary = false;
}

-- A variable of the program; a valid path leads to the point, and on every one the variable holds the expression's value there.
pub record HoldsValue (program : Program) (e point variable : ℕ) : Type 0 where
  pub below : variable < length program.variable_names
  pub reached : HasPath (shape_of program) point
  pub always : EveryPathHas (shape_of program) (holding program e variable) point
