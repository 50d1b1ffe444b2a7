-- What sets say of the expressions that one path leaves alone.
--
-- All is said of the may form of very busy expressions, over the reversed edges: there a bit is in the set of a point where its expression is not
-- very busy. An evaluation kills it, and a statement that writes an operand and does not evaluate generates it.
use Rattle.std.specs.Prelude.{◌≡◌, ◌⊎◌, ◌<◌, ℕ, true, List, Some, length, slice_index_or}
use Rattle.flow_graph.specs.Paths.{Shape, Transfer}
use Rattle.flow_graph.specs.Points.{point_count}
use Rattle.flow_graph.specs.Problems.{may_shape, may_transfer}
use Rattle.flow_graph.specs.Universes.{bits, evaluated_at}
use Rattle.flow_graph.specs.WellFormed.{IsWellFormed}
use Rattle.flow_graph.specs.declared.analysis.Analysis.TheVariants.{Busy}
use Rattle.gen_kill.specs.Selections.{Selection, column_gens}
use Rattle.flow_links.specs.Shapes.{LinkedProgram}
use Rattle.summary_equations.specs.Equations.{Brought, Entered, Generated, Preserved, Reached}
use Rattle.busy_bounds.specs.code.Sets.{IsIn, IsThere}
use Rattle.busy_bounds.specs.declared.bound.Bound.{Bound}
use Rattle.busy_bounds.specs.declared.bound.Bound.TheVariants.{Unknown}
use Rattle.busy_bounds.specs.declared.finding.Paths.{Paths}
use Rattle.flow_regions.specs.code.Ways.{AreWays, IsTree}
use Rattle.tac_program.specs.Programs.{Program}

-- the edges and the transfer of the may form of a program's very busy expressions
abbrev pub busy_shape : Program → Shape
busy_shape program = may_shape program Busy

abbrev pub busy_transfer : Program → ℕ → Transfer
busy_transfer program bit = may_transfer program Busy bit

abbrev pub reversed_program : Program → LinkedProgram
reversed_program program = record { program = program; backward = true }

-- Some path from the procedure's end to the point preserves the bit, or generates it.
abbrev pub IsLeftAt : Program → ℕ → ℕ → Type 0
IsLeftAt program x bit =
    Preserved (busy_shape program) (busy_transfer program bit).kill x ⊎ Generated (busy_shape program) (busy_transfer program bit) x

-- A set, as the statement at a point changes it: each number of the old one is in it, unless the statement spoils it, and so is the one that it
-- evaluates.
pub record IsStepped (selection : Selection) (point : ℕ) (old new : List ℕ) (bound stepped : Bound) : Type 0 where
  pub there : IsThere new stepped
  pub has : (number : ℕ) → IsIn old bound number → IsIn new stepped number ⊎ (column_gens selection point number ≡ true)
  pub evaluated : (number : ℕ) → evaluated_at selection.program point ≡ Some number → IsIn new stepped number

-- Of a point's set: unless it is unknown, the point is reached, and each expression is in the set, or some path leaves it.
pub record IsPointSet (program : Program) (items : List ℕ) (x : ℕ) (bound : Bound) : Type 0 where
  pub there : IsThere items bound
  pub reached : bound ≡ Unknown ⊎ Reached (busy_shape program) x
  pub left : (bit : ℕ) → bit < bits program Busy → IsIn items bound bit ⊎ IsLeftAt program x bit

-- Of a procedure's: it is entered, and each expression is in the set, or is brought.
pub record IsProcedureSet (program : Program) (items : List ℕ) (p : ℕ) (bound : Bound) : Type 0 where
  pub there : IsThere items bound
  pub entered : bound ≡ Unknown ⊎ Entered (busy_shape program) p
  pub left : (bit : ℕ) → bit < bits program Busy → IsIn items bound bit ⊎ Brought (busy_shape program) (busy_transfer program bit) p

-- the sets of all points, and of all procedures
pub record ArePointSets (program : Program) (items : List ℕ) (points : List Bound) : Type 0 where
  pub count : length points ≡ point_count program
  pub each : (x : ℕ) → x < point_count program → IsPointSet program items x (slice_index_or points x Unknown)

pub record AreProcedureSets (program : Program) (items : List ℕ) (procedures : List Bound) : Type 0 where
  pub count : length procedures ≡ (busy_shape program).procedures
  pub each : (p : ℕ) → p < (busy_shape program).procedures → IsProcedureSet program items p (slice_index_or procedures p Unknown)

-- both
pub record AreSets (program : Program) (items : List ℕ) (points procedures : List Bound) : Type 0 where
  pub formed : IsWellFormed (busy_shape program)
  pub of_points : ArePointSets program items points
  pub of_procedures : AreProcedureSets program items procedures

-- Paths over a program's reversed edges.
pub record ArePaths (program : Program) (paths : Paths) : Type 0 where
  pub linked : paths.links.now ≡ reversed_program program
  pub ways : AreWays paths.links.now paths.ways.now
  pub tree : IsTree paths.links.now paths.ways.now paths.tree.now
