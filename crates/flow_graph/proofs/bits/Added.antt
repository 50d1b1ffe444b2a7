-- The definition that a statement adds
use Rattle.std.proofs.Common.{ℕ, List, [], ◌∷◌, Option, Some, None}
use Rattle.flow_graph.specs.Universes.{Definition}

-- what one point adds
abbrev pub added : ℕ → Option ℕ → List Definition
added point target = elim target [ Some x ↦ (x, Some point) ∷ [] | None ↦ [] ]
