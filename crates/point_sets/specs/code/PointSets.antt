-- What is asked of a set that is to be written.
use Rattle.std.specs.Prelude.{◌≡◌, ℕ, ◌<◌, Bool, ◌&&◌, All, length}
use Rattle.flow_graph.specs.Edges.{edges_from}
use Rattle.flow_graph.specs.Paths.{target_of}
use Rattle.flow_graph.specs.Points.{point_count}
use Rattle.flow_graph.specs.Universes.{bits}
use Rattle.flow_team.specs.Tables.{facts_of}
use Rattle.point_sets.specs.Sets.{is_bit_shown, set_on}
use Rattle.point_sets.specs.declared.point_set.PointSet.{PointSet}
use Rattle.point_sets.specs.declared.side.Side.TheVariants.{Behind}

-- Its table is one of its program's, with the point; the edges are those out of it, and where the set behind is wanted the table has the
-- points to which they lead.
pub record IsPointSet (set : PointSet) : Type 0 where
  pub point : set.point < point_count set.graph.now
  pub there : set.point < length set.table.now.paths
  pub bits : set.table.now.bits ≡ bits set.graph.now set.table.now.analysis
  pub edges : set.edges.now ≡ edges_from set.graph.now set.point
  pub next : set.side ≡ Behind → All (λ edge. target_of edge < length set.table.now.paths) set.edges.now

-- what the table says of the bits of the set that are shown
abbrev pub shows : PointSet → ℕ → Bool
shows set bit =
    set_on set.side set.graph.now set.table.now.analysis (facts_of set.table.now) set.point bit
    && is_bit_shown set.graph.now set.table.now.analysis set.hides_entry bit
