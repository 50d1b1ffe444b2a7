-- Sets of numbers, side by side in one list.
use Rattle.std.specs.Prelude.{◌≡◌, ◌<◌, ◌≤◌, ℕ, List, length, slice_index}
use Rattle.busy_bounds.specs.declared.bound.Bound.{Bound}
use Rattle.busy_bounds.specs.declared.bound.Bound.TheVariants.{Unknown, Among}

-- The number stands at one of these places.
pub record IsAmong (items : List ℕ) (from until number : ℕ) : Type 0 where
  pub place : ℕ
  pub past : from ≤ place
  pub before : place < until
  pub is : slice_index items place ≡ number

-- the number is one of the set: a set that is unknown may have each
abbrev pub IsIn : List ℕ → Bound → ℕ → Type 0
IsIn items Unknown number = Unit {0}
IsIn items (Among from until) number = IsAmong items from until number

-- the set's places are there
abbrev pub IsThere : List ℕ → Bound → Type 0
IsThere items Unknown = Unit {0}
IsThere items (Among from until) = until ≤ length items

-- Numbers came behind those that were there.
pub record Grows (old new : List ℕ) : Type 0 where
  pub count : length old ≤ length new
  pub same : (i : ℕ) → i < length old → slice_index new i ≡ slice_index old i

-- The set has each number of two others.
pub record Joins (old new : List ℕ) (first second joined : Bound) : Type 0 where
  pub there : IsThere new joined
  pub has_first : (number : ℕ) → IsIn old first number → IsIn new joined number
  pub has_second : (number : ℕ) → IsIn old second number → IsIn new joined number
