-- Lists that have all numbers of a kind.
use Rattle.std.specs.Prelude.{◌<◌, ◌↔◌, ℕ, List, Contains, length, slice_index}

-- all numbers of a kind and no other, rising, each once
pub record AreAll (kind : ℕ → Type 0) (numbers : List ℕ) : Type 0 where
  pub rising : (i j : ℕ) → i < j → j < length numbers → slice_index numbers i < slice_index numbers j
  pub listed : (n : ℕ) → Contains numbers n ↔ kind n
