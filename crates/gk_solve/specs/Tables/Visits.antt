-- What a solver by visits of changed points keeps, whatever the table is that it fills.
use Rattle.std.specs.Prelude.{◌≡◌, ℕ, ◌<◌, Bool, List, length, ◌⊎◌}
use Rattle.flow_graph.specs.declared.edge.Edge.{Edge}
use Rattle.flow_graph.specs.Paths.{Shape, IsEdge}
use Rattle.worklist.specs.Worklist.{IsMarked}

-- The table is closed under an edge, or what the edge leaves is still to be visited.
abbrev pub IsSettled : {Table : Type 0} → (Table → Edge → Type 0) → (Edge → ℕ) → Table → List Bool → Edge → Type 0
IsSettled Closed from table dirty edge = Closed table edge ⊎ IsMarked dirty (from edge)

-- What each part of a visit does: it adds what is sound, and an edge that was settled stays so. Where it adds nothing, all is
-- as it was; else there is less room left.
pub record Spreads {Table : Type 0} (room : Table → ℕ) (Grows : Table → Table → Type 0) (Settled : Table → List Bool → Edge → Type 0)
    (Sound : Table → Type 0) (shape : Shape) (old : Table) (dirty : List Bool) (new : Table) (dirty_after : List Bool) : Type 0 where
  pub count : length dirty_after ≡ length dirty
  pub grows : Grows old new
  pub settled : (edge : Edge) → IsEdge shape edge → Settled old dirty edge → Settled new dirty_after edge
  pub progress : ((new ≡ old) × (dirty_after ≡ dirty)) ⊎ (room new < room old)
  pub sound : Sound old → Sound new
