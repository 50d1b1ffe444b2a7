-- How the code stands for an iteration.
use Rattle.std.specs.Prelude.{◌≡◌, ◌↔◌, ℕ, ◌-◌, ◌<◌, ◌≤◌, Bool, true, false, ◌&&◌, List, [], map, filter, length, nat_le, nat_lt}
use Rattle.std.specs.Prelude.{slice_index_or, slice_index, Contains}
use Rattle.flow_graph.specs.Paths.{source_of, value_across}
use Rattle.flow_graph.specs.Points.{point_count}
use Rattle.flow_graph.specs.Problems.{directed_transfer, may_shape}
use Rattle.flow_graph.specs.Universes.{bits}
use Rattle.flow_graph.specs.declared.analysis.Analysis.{Analysis}
use Rattle.flow_graph.specs.declared.edge.Edge.{Edge}
use Rattle.flow_graph.specs.declared.edge.Edge.TheVariants.{Step}
use Rattle.flow_team.specs.Tables.{TableFacts, facts_of}
use Rattle.tac_program.specs.Programs.{Program}
use Rattle.flow_rounds.specs.Rounds.{is_step_to}
use Rattle.flow_rounds.specs.Steps.{AreApart, Iteration, computes, set_after}
use Rattle.flow_rounds.specs.declared.point_range.PointRange.{PointRange}

-- The point is one of these.
abbrev pub IsWithin : PointRange → ℕ → Type 0
IsWithin points point = (points.first ≤ point) × (point < points.end)

-- whether a table tells of one of these points that it has a valid path; of others none is told
abbrev pub has_path_within : PointRange → TableFacts → ℕ → Bool
has_path_within points table point = nat_le points.first point && nat_lt point points.end && (facts_of table).has_path point

-- an analysis in a procedure by its table and the procedure's points, with an order
pub record Framed : Type 0 where
  pub program : Program
  pub analysis : Analysis
  pub procedure : ℕ
  pub points : PointRange
  pub table : TableFacts
  pub order : List ℕ

-- the iteration for which it stands
abbrev pub iteration_of : Framed → Iteration
iteration_of framed = record {
  program = framed.program;
  analysis = framed.analysis;
  procedure = framed.procedure;
  facts = record { has_path = has_path_within framed.points framed.table; contains = (facts_of framed.table).contains };
  order = framed.order;
}

-- the points from which steps lead to a point, of those that have a valid path
abbrev pub sources_to : List Edge → (ℕ → Bool) → ℕ → List ℕ
sources_to edges has_path point = map source_of (filter (is_step_to has_path point) edges)

-- A column tells of each of these points what a test does.
pub record TellsColumn (points : PointRange) (test : ℕ → Bool) (column : List Bool) : Type 0 where
  pub count : length column ≡ points.end - points.first
  pub each : (point : ℕ) → points.first ≤ point → point < points.end → slice_index_or column (point - points.first) false ≡ test point

-- The order has each point that is computed once, and no other.
pub record IsOrdered (framed : Framed) : Type 0 where
  pub listed : (point : ℕ) → Contains framed.order point
      ↔ (IsWithin framed.points point × (computes (iteration_of framed) point ≡ true))
  pub once : AreApart framed.order

-- For each point of an order there are the points from which steps lead to it.
pub record AreSources (edges : List Edge) (has_path : ℕ → Bool) (order : List ℕ) (sources : List (List ℕ)) : Type 0 where
  pub count : length sources ≡ length order
  pub each : (place : ℕ) → place < length order → slice_index_or sources place [] ≡ sources_to edges has_path (slice_index order place)

-- What the code keeps stands for an iteration.
pub record IsFramed (framed : Framed) (marks : List Bool) (lists : List (List ℕ)) : Type 0 where
  pub ordered : framed.points.first ≤ framed.points.end
  pub there : framed.points.end ≤ point_count framed.program
  pub of_analysis : framed.table.analysis ≡ framed.analysis
  pub count : length framed.table.paths ≡ framed.points.end
  pub bits : framed.table.bits ≡ bits framed.program framed.analysis
  pub computed : TellsColumn framed.points (computes (iteration_of framed)) marks
  pub order : IsOrdered framed
  pub sources : AreSources (may_shape framed.program framed.analysis).edges (has_path_within framed.points framed.table) framed.order lists

-- whether the set of a point has a bit, by the columns of all bits
abbrev pub bit_in : PointRange → List (List Bool) → ℕ → ℕ → Bool
bit_in points columns point bit = slice_index_or (slice_index_or columns bit []) (point - points.first) false

-- There is a column for each bit, with a truth value for each point.
pub record AreSized (points : PointRange) (bits : ℕ) (columns : List (List Bool)) : Type 0 where
  pub count : length columns ≡ bits
  pub each : (bit : ℕ) → bit < bits → length (slice_index_or columns bit []) ≡ points.end - points.first

-- The columns tell the sets after so many rounds.
pub record AreColumns (framed : Framed) (rounds : ℕ) (columns : List (List Bool)) : Type 0 where
  pub count : length columns ≡ bits framed.program framed.analysis
  pub each : (bit : ℕ) → bit < bits framed.program framed.analysis
      → TellsColumn framed.points (λ point. set_after (iteration_of framed) rounds point bit) (slice_index_or columns bit [])

-- whether a step to a point brings a bit of a column
abbrev pub brings_bit : Framed → List Bool → ℕ → ℕ → ℕ → Bool
brings_bit framed column bit point source =
    value_across (directed_transfer framed.program framed.analysis bit) (Step source point)
    (slice_index_or column (source - framed.points.first) false)
