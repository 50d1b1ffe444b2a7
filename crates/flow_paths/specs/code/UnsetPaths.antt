-- The paths of uses of variables that may not be set there, and where those of a point stand.
use Rattle.std.specs.Prelude.{◌≡◌, ℕ, ◌+◌, ◌-◌, ◌<◌, List, [], ◌∷◌, map, length, All, Contains, if◌then◌else◌, nat_eq, slice_index, slice_index_or}
use Rattle.std.specs.List.{range_with_len}
use Rattle.flow_graph.specs.Analyses.{shape_of, transfer_of}
use Rattle.flow_graph.specs.Paths.{SomePathHas}
use Rattle.flow_graph.specs.Points.{point_count}
use Rattle.flow_graph.specs.declared.analysis.Analysis.TheVariants.{Reach}
use Rattle.flow_reports.specs.Reports.{IsKnowledge, Knowledge}
use Rattle.flow_reports.specs.declared.unset.UnsetUse.{UnsetUse}
use Rattle.flow_views.specs.declared.view_program.ViewProgram.{ViewProgram}
use Rattle.flow_why.specs.Witnesses.{IsWitness}
use Rattle.flow_why.specs.declared.hop.Hop.{Hop}
use Rattle.tac_program.specs.Programs.{Program}
use Rattle.worklist.specs.Groups.{AreGroups}
use Rattle.flow_paths.specs.Paths.{AreWitnesses}
use Rattle.flow_paths.specs.declared.unset_path.UnsetPath.{UnsetPath}

-- The use is of a variable of the program, at a point of it, which some valid path reaches with the variable's value at the beginning.
pub record IsUnsetUse (program : Program) (one : UnsetUse) : Type 0 where
  pub point : one.point < point_count program
  pub variable : one.variable < length program.variable_names
  pub reaches : SomePathHas (shape_of program) (transfer_of program Reach one.variable) one.point

-- the use of a number
abbrev pub use_at : List UnsetUse → ℕ → UnsetUse
use_at uses place = slice_index_or uses place (record { point = 0; variable = 0 })

-- the use of a path, and the uses of paths
abbrev pub use_of : UnsetPath → UnsetUse
use_of path = record { point = path.point; variable = path.variable }

abbrev pub uses_in : List UnsetPath → List UnsetUse
uses_in paths = map use_of paths

-- The hops of a path are a witness for its use.
abbrev pub IsWitnessed : Program → UnsetPath → Type 0
IsWitnessed program path = IsWitness (shape_of program) (transfer_of program Reach path.variable) path.point path.hops.items

-- the hops of the path of a number
abbrev pub hops_in : List UnsetPath → ℕ → List Hop
hops_in paths place = slice_index_or (map (λ path. path.hops.items) paths) place []

-- the hops of the first of some paths, by number, that is of a variable
abbrev pub hops_among : List UnsetPath → List ℕ → ℕ → List Hop
hops_among paths [] variable = []
hops_among paths (place ∷ places) variable =
    if nat_eq (use_at (uses_in paths) place).variable variable then hops_in paths place else hops_among paths places variable

-- the numbers that stand side by side from one place on and before another
abbrev pub between : List ℕ → ℕ → ℕ → List ℕ
between places first end = map (slice_index places) (range_with_len first (end - first))

-- the numbers of a key
abbrev pub numbers_of : List ℕ → List ℕ → ℕ → List ℕ
numbers_of starts places key = between places (slice_index starts key) (slice_index starts (key + 1))

-- paths, and their numbers by point
pub record PathTable : Type 0 where
  pub paths : List UnsetPath
  pub starts : List ℕ
  pub places : List ℕ

-- the hops for a variable at a point
abbrev pub hops_at : PathTable → ℕ → ℕ → List Hop
hops_at table point variable = hops_among table.paths (numbers_of table.starts table.places point) variable

-- the numbers of the paths are by their points
abbrev pub IsByPoint : PathTable → Type 0
IsByPoint table = AreGroups (map (λ one. one.point) (uses_in table.paths)) (length table.starts - 1) table.starts table.places

-- There is a path of each use, and each path is of witnesses; they are found by the points of the program.
pub record ArePathsOf (program : Program) (uses : List UnsetUse) (table : PathTable) : Type 0 where
  pub count : length table.starts ≡ point_count program + 1
  pub witnessed : All (IsWitnessed program) table.paths
  pub complete : All (Contains (uses_in table.paths)) uses
  pub by_point : IsByPoint table

-- The table has witnesses for all that is known of what is shown.
abbrev pub AreWitnessesOf : ViewProgram → PathTable → Type 0
AreWitnessesOf shown table =
    (known : Knowledge) → IsKnowledge shown.found.graph.now known → AreWitnesses shown.found.graph.now known shown.view (hops_at table)
