-- How far components are found.
use Rattle.std.specs.Prelude.{◌≡◌, ◌≢◌, ◌↔◌, ℕ, suc, ◌<◌, Bool, true, List, length, map, slice_index, if◌then◌else◌}
use Rattle.flow_graph.specs.code.NumberLists.{AreLists, contents}
use Rattle.graph_components.specs.Components.{LeadToEachOther}
use Rattle.graph_components.specs.code.Marks.{AreUpTo}
use Rattle.graph_components.specs.code.Targets.{AreWithin, reversed_arc, targets_of}
use Rattle.graph_components.specs.declared.arc.Arc.{Arc}
use Rattle.graph_components.specs.declared.components.Found.{Found}
use Rattle.graph_components.specs.declared.components.Ways.{Ways}

-- arcs both ways round, with where they lead
pub record AreWays (nodes : ℕ) (ways : Ways) : Type 0 where
  pub within : AreWithin nodes ways.arcs.now
  pub reversed : ways.reversed.now ≡ map reversed_arc ways.arcs.now
  pub ahead : AreLists (contents ways.ahead.now) nodes (targets_of ways.arcs.now)
  pub behind : AreLists (contents ways.behind.now) nodes (targets_of ways.reversed.now)

-- The component of a node gets its number, which is one more than the node, and all others keep theirs.
pub record AddsComponent (arcs : List Arc) (nodes start : ℕ) (old new : List ℕ) : Type 0 where
  pub count : length new ≡ nodes
  pub has : ℕ → Bool
  pub tells : (node : ℕ) → node < nodes → (has node ≡ true) ↔ LeadToEachOther arcs start node
  pub is : (node : ℕ) → node < nodes → slice_index new node ≡ (if has node then suc start else slice_index old node)

-- The nodes before one have numbers: nodes that lead to each other have the same, which is one more than one that they lead to, and 0 is none.
pub record AreNumbered (arcs : List Arc) (nodes next : ℕ) (numbers : List ℕ) : Type 0 where
  pub count : length numbers ≡ nodes
  pub sound : (node root : ℕ) → node < nodes → slice_index numbers node ≡ suc root → LeadToEachOther arcs root node
  pub same : (one other : ℕ) → one < nodes → other < nodes → LeadToEachOther arcs one other → slice_index numbers one ≡ slice_index numbers other
  pub found : (node : ℕ) → node < next → slice_index numbers node ≢ 0

-- and no mark is of a search from this node or a later one
pub record AreFound (arcs : List Arc) (nodes next : ℕ) (found : Found) : Type 0 where
  pub numbers : AreNumbered arcs nodes next found.numbers.items
  pub ahead_count : length found.ahead.items ≡ nodes
  pub ahead : AreUpTo next found.ahead.items
  pub behind_count : length found.behind.items ≡ nodes
  pub behind : AreUpTo next found.behind.items
