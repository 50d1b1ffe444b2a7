-- Which nodes of a graph lead to each other.
use Rattle.std.specs.Prelude.{◌≡◌, ◌↔◌, ℕ, ◌<◌, List, [], ◌∷◌, Contains, length, slice_index}
use Rattle.graph_components.specs.declared.arc.Arc.{Arc}

-- an arc leads from one node to another
abbrev pub Joins : List Arc → ℕ → ℕ → Type 0
Joins arcs from to = Contains arcs (record { from = from; to = to })

-- A walk: from each of its nodes an arc leads to the next one. It has those behind the first.
abbrev pub IsWalk : List Arc → ℕ → List ℕ → ℕ → Type 0
IsWalk arcs start [] finish = start ≡ finish
IsWalk arcs start (next ∷ others) finish = Joins arcs start next × IsWalk arcs next others finish

-- some walk leads from one node to another; it may be the empty one
abbrev pub Leads : List Arc → ℕ → ℕ → Type 0
Leads arcs start finish = (nodes : List ℕ) × IsWalk arcs start nodes finish

-- walks lead there and back
pub record LeadToEachOther (arcs : List Arc) (one other : ℕ) : Type 0 where
  pub there : Leads arcs one other
  pub back : Leads arcs other one

-- One number for each of so many nodes: two have the same exactly where they lead to each other.
pub record AreComponents (arcs : List Arc) (nodes : ℕ) (numbers : List ℕ) : Type 0 where
  pub count : length numbers ≡ nodes
  pub each : (one other : ℕ) → one < nodes → other < nodes → (slice_index numbers one ≡ slice_index numbers other) ↔ LeadToEachOther arcs one other
