-- Flags as numbers.
use Rattle.std.specs.Prelude.{◌≡◌, ℕ, ◌+◌, ◌<◌, Bool, false, List, length, slice_index, slice_index_or, if◌then◌else◌}

-- Of the flags from one on, each number is 1 where the flag is set, and else 0.
pub record AreNumbers (flags : List Bool) (from : ℕ) (old numbers : List ℕ) : Type 0 where
  pub count : length numbers ≡ length old
  pub each : (n : ℕ) → n < length old → slice_index numbers n ≡ (if slice_index_or flags (from + n) false then 1 else 0)
