-- Values by key, side by side in one block.
use Rattle.std.specs.Prelude.{◌≡◌, ◌+◌, ◌<◌, ◌≤◌, ℕ, List, length, slice_index}
use Rattle.worklist.specs.Groups.{IsPlaceOf}
use Rattle.flow_regions.specs.declared.lists.Lists.{Lists}

-- a value stands among those of a key
abbrev pub Has : Lists → ℕ → ℕ → Type 0
Has lists key value = (j : ℕ) × IsPlaceOf lists.starts.items key j × (j < length lists.values.items) × (slice_index lists.values.items j ≡ value)

-- The values of each key lie side by side.
pub record AreLists (count : ℕ) (lists : Lists) : Type 0 where
  pub starts : length lists.starts.items ≡ count + 1
  pub rising : (k : ℕ) → k < count → slice_index lists.starts.items k ≤ slice_index lists.starts.items (k + 1)
  pub within : (k : ℕ) → k < count → slice_index lists.starts.items (k + 1) ≤ length lists.values.items

-- each number of a list is below a limit
abbrev pub AreLow : ℕ → List ℕ → Type 0
AreLow limit values = (i : ℕ) → i < length values → slice_index values i < limit

-- some of the first pairs has this key and this value
abbrev pub IsPair : List ℕ → List ℕ → ℕ → ℕ → ℕ → Type 0
IsPair keys values until key value = (i : ℕ) × (i < until) × (slice_index keys i ≡ key) × (slice_index values i ≡ value)

-- Pairs of which each key is below one limit and each value below another.
pub record ArePairs (count limit : ℕ) (keys values : List ℕ) : Type 0 where
  pub same : length values ≡ length keys
  pub keys_low : AreLow count keys
  pub values_low : AreLow limit values

-- lists have the values of pairs by their keys
pub record AreListsOf (count : ℕ) (keys values : List ℕ) (lists : Lists) : Type 0 where
  pub are : AreLists count lists
  pub low : (limit : ℕ) → AreLow limit values → AreLow limit lists.values.items
  pub has : (key value : ℕ) → IsPair keys values (length keys) key value → Has lists key value
