-- An order as two lists: the rank of each point, and the point of each rank.
use Rattle.std.specs.Prelude.{◌≡◌, ◌<◌, ◌≤◌, ◌^◌, ℕ, List, length, slice_index}

-- each number leads, by the one list and then the other, back to itself
abbrev pub LeadsBack : List ℕ → List ℕ → Type 0
LeadsBack there back = (k : ℕ) → k < length there → (slice_index there k < length back) × (slice_index back (slice_index there k) ≡ k)

-- each list is the other's inverse
pub record AreInverse (ranks points : List ℕ) : Type 0 where
  pub few : length ranks ≤ 2 ^ 31
  pub same : length points ≡ length ranks
  pub there : LeadsBack ranks points
  pub back : LeadsBack points ranks
