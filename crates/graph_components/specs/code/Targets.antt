-- The nodes to which arcs lead.
use Rattle.std.specs.Prelude.{ℕ, ◌<◌, List, [], ◌∷◌, All, flat_map, nat_eq, if◌then◌else◌}
use Rattle.graph_components.specs.declared.arc.Arc.{Arc}

-- they join nodes of which there are so many
abbrev pub AreWithin : ℕ → List Arc → Type 0
AreWithin count arcs = All (λ arc. (arc.from < count) × (arc.to < count)) arcs

-- where an arc leads, if it leaves a node
abbrev pub target_if : ℕ → Arc → List ℕ
target_if node arc = if nat_eq node arc.from then arc.to ∷ [] else []

-- the nodes to which arcs lead from a node
abbrev pub targets_of : List Arc → ℕ → List ℕ
targets_of arcs node = flat_map (target_if node) arcs

abbrev pub reversed_arc : Arc → Arc
reversed_arc arc = record { from = arc.to; to = arc.from }
