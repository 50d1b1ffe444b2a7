-- Lists of names, in which each has its number.
use Rattle.std.specs.Prelude.{ℕ, Bool, List, [], ◌∷◌, ◌++◌, bytes_eq, slice_get, unwrap_or, if◌then◌else◌}
use Rattle.std.specs.List.{list_any}

abbrev pub is_one_of : List ℕ → List (List ℕ) → Bool
is_one_of s those = list_any (bytes_eq s) those

-- Each name once, in the order of first occurrence.
abbrev pub noted : List (List ℕ) → List ℕ → List (List ℕ)
noted known x = if is_one_of x known then known else known ++ x ∷ []

abbrev pub name_at : List (List ℕ) → ℕ → List ℕ
name_at names n = unwrap_or (slice_get names n) []

-- The names that the numbers in a statement are places among.
pub record Names : Type 0 where
  pub procedures : List (List ℕ)
  pub variables : List (List ℕ)
  pub labels : List (List ℕ)
