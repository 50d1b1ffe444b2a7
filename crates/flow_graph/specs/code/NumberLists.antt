-- Tables of lists of numbers: the list of each index.
use Rattle.std.specs.Prelude.{◌≡◌, ◌<◌, ℕ, List, [], ◌∷◌, ◌++◌, length, map, get_or, slice_set}
use Rattle.smallvec.specs.SmallVec.{SmallVec}

-- the lists that a table holds
abbrev pub contents : List (SmallVec ℕ) → List (List ℕ)
contents lists = map (λ list. list.items) lists

-- the table with one number more at the end of a list
abbrev pub with_last : List (List ℕ) → ℕ → ℕ → List (List ℕ)
with_last lists index number = slice_set lists index (get_or lists index [] ++ number ∷ [])

-- so many lists, each the list that its index stands for
pub record AreLists (lists : List (List ℕ)) (many : ℕ) (list_of : ℕ → List ℕ) : Type 0 where
  pub count : length lists ≡ many
  pub each : (index : ℕ) (d : List ℕ) → index < many → get_or lists index d ≡ list_of index
