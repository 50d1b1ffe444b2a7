-- The solution's words of a group, as far as they lie within a slice.
use Rattle.std.specs.Prelude.{◌≡◌, ◌+◌, ◌*◌, ◌<◌, ◌≤◌, ◌↔◌, ◌⊎◌, ℕ, Bool, true, List, slice_index}
use Rattle.bit_rows.specs.Words.{has_bit}
use Rattle.summary_equations.specs.Equations.{IsInSolution}
use Rattle.gk_solve.specs.Tables.Flags.{IsFlagged}
use Rattle.gk_solve.specs.Tables.Groups.{Group, generated_word}
use Rattle.gk_solve.specs.Tables.Words.{HasBit}
use Rattle.gk_solve.specs.declared.summary.Summary.{Summary}

-- the bits of so many words, from the first one's number on, are those of lo..hi
abbrev pub AreInSlice : ℕ → ℕ → ℕ → ℕ → List ℕ → Type 0
AreInSlice width first lo hi words = (w k : ℕ) → w < width → k < 64
    → (has_bit (slice_index words w) k ≡ true) ↔ ((lo ≤ 64 * (first + w) + k) × (64 * (first + w) + k < hi))

-- the words of a point with a path have what is generated, and of what is brought what is preserved, as far as it is within; of others nothing
abbrev pub IsSolutionAt : Group → List Bool → ℕ → List ℕ → List ℕ → List ℕ → List ℕ → List ℕ → Type 0
IsSolutionAt group paths point preserved generated brought within solution = (w k : ℕ) → w < group.width
    → (has_bit (slice_index solution w) k ≡ true)
    ↔ (IsFlagged paths point × (has_bit (slice_index within w) k ≡ true)
    × ((has_bit (slice_index generated w) k ≡ true) ⊎ ((has_bit (slice_index brought w) k ≡ true) × (has_bit (slice_index preserved w) k ≡ true))))

-- at each point the words have exactly the solution's bits of lo..hi
abbrev pub AreSliceSolutions : {W : ℕ} → Group → ℕ → ℕ → ℕ → ℕ → List (Summary W) → Type 0
AreSliceSolutions group first points lo hi table = (w x k : ℕ) → w < group.width → x < points → k < 64
    → HasBit (generated_word table w) x k ↔ ((lo ≤ 64 * (first + w) + k) × (64 * (first + w) + k < hi) × IsInSolution group.shape (group.transfer w k) x)
