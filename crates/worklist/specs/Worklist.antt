-- A set of points, seen as a list that tells for each point whether it is marked.
use Rattle.std.specs.Prelude.{◌≡◌, ℕ, Bool, true, false, List, slice_index_or}

-- a point is marked
abbrev pub IsMarked : List Bool → ℕ → Type 0
IsMarked worklist x = slice_index_or worklist x false ≡ true

-- no point is marked
abbrev pub AreClear : List Bool → Type 0
AreClear worklist = (x : ℕ) → slice_index_or worklist x false ≡ false
