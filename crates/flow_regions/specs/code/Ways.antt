-- Paths through procedures, and a tree of calls, as lists in which each element rests on some before it.
use Rattle.std.specs.Prelude.{◌≡◌, ◌<◌, ℕ, List, Some, length, slice_get, slice_index_or}
use Rattle.flow_graph.specs.Paths.{IsEdge}
use Rattle.flow_graph.specs.declared.edge.Edge.TheVariants.{Step as step}
use Rattle.flow_links.specs.LinkLists.{IsCallLink, IsSiteLink}
use Rattle.flow_links.specs.Shapes.{LinkedProgram, directed_shape}
use Rattle.flow_regions.specs.declared.way.Branch.{Branch}
use Rattle.flow_regions.specs.declared.way.Hang.{Hang}
use Rattle.flow_regions.specs.declared.way.Hang.TheVariants.{Root, Call}
use Rattle.flow_regions.specs.declared.way.Hop.{Hop}
use Rattle.flow_regions.specs.declared.way.Hop.TheVariants.{Begins, Steps, Passes}
use Rattle.flow_regions.specs.declared.way.Way.{Way}

-- the point of a way, and the procedure of a branch, by their numbers
abbrev pub point_in : List Way → ℕ → ℕ
point_in ways j = (slice_index_or ways j (record { point = 0; hop = Begins })).point

abbrev pub procedure_in : List Branch → ℕ → ℕ
procedure_in tree j = (slice_index_or tree j (record { procedure = 0; hang = Root })).procedure

-- A point is reached by a hop: it is an entry, or an edge leads there from ways before a number.
pub data IsHop (linked : LinkedProgram) (ways : List Way) (number x : ℕ) : Hop → Type 0 where
  begins : (p : ℕ) → p < (directed_shape linked).procedures → (directed_shape linked).entry p ≡ x → IsHop linked ways number x Begins
  by_step : (j : ℕ) → j < number → IsEdge (directed_shape linked) (step (point_in ways j) x) → IsHop linked ways number x (Steps j)
  by_call : (j e : ℕ) → j < number → e < number
      → IsCallLink (directed_shape linked) linked.backward (point_in ways j) (record { exit = point_in ways e; after = x })
      → IsHop linked ways number x (Passes j e)

abbrev pub AreWays : LinkedProgram → List Way → Type 0
AreWays linked ways = (i : ℕ) (way : Way) → slice_get ways i ≡ Some way → IsHop linked ways i way.point way.hop

-- A procedure is entered: it is the root's, or one of a branch before a number calls it, at a point to which a way leads.
pub data IsHang (linked : LinkedProgram) (ways : List Way) (tree : List Branch) (number procedure : ℕ) : Hang → Type 0 where
  is_root : procedure ≡ (directed_shape linked).root_procedure → IsHang linked ways tree number procedure Root
  by_site : (j w : ℕ) → j < number → w < length ways
      → IsSiteLink (directed_shape linked) (procedure_in tree j) (record { point = point_in ways w; callee = procedure })
      → IsHang linked ways tree number procedure (Call j w)

abbrev pub IsTree : LinkedProgram → List Way → List Branch → Type 0
IsTree linked ways tree = (i : ℕ) (branch : Branch) → slice_get tree i ≡ Some branch → IsHang linked ways tree i branch.procedure branch.hang
