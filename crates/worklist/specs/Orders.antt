-- An order of points, seen as the rank of each.
use Rattle.std.specs.Prelude.{◌≡◌, ◌<◌, ◌≤◌, ◌^◌, ℕ, List, length, slice_index}

-- There are at most 2^31 points, each has a rank below their count, and no two have the same.
pub record IsOrder (ranks : List ℕ) : Type 0 where
  pub few : length ranks ≤ 2 ^ 31
  pub in_range : (x : ℕ) → x < length ranks → slice_index ranks x < length ranks
  pub apart : (x y : ℕ) → x < length ranks → y < length ranks → slice_index ranks x ≡ slice_index ranks y → x ≡ y
