-- How a team works: by how many workers, in slices of how many bits.
use Rattle.std.specs.Prelude.{ℕ, ◌≤◌}

-- The number of workers, and the width of a slice in bits.
abbrev pub AreInRange : ℕ → ℕ → Type 0
AreInRange workers cut = (1 ≤ workers) × (workers ≤ 64) × (1 ≤ cut) × (cut ≤ 4096)
