-- Marks of nodes, of which those of the latest search tell what it has found.
use Rattle.std.specs.Prelude.{ℕ, ◌≤◌, ◌&&◌, Bool, List, All, map, nat_eq, slice_index}
use Rattle.std.specs.List.{list_any}

-- which nodes have the mark of a search
abbrev pub marked_by : ℕ → List ℕ → List Bool
marked_by stamp marks = map (λ mark. nat_eq mark stamp) marks

-- all marks are of this search or of those before it
abbrev pub AreUpTo : ℕ → List ℕ → Type 0
AreUpTo stamp marks = All (λ mark. mark ≤ stamp) marks

-- whether a node is one of these, and has the mark of a search
abbrev pub in_both : List ℕ → List ℕ → ℕ → ℕ → Bool
in_both nodes marks stamp node = list_any (nat_eq node) nodes && nat_eq (slice_index marks node) stamp
