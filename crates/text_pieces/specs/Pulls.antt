-- What was pulled of a text.
use Rattle.std.specs.Prelude.{◌≡◌, ℕ, List, Bool, true, ◌⊎◌, ◌≤◌, length, Option}
use Rattle.std.specs.Io.KnownBytes.{Consumes, IsAtEnd}

-- This text was pulled, and it is all there was, or as much as is pulled at most.
pub record PullsUpTo (most : ℕ) (before after : Option (List ℕ)) (ended : Bool) (text : List ℕ) : Type 0 where
  pub pulled : Consumes before after text
  pub all : ((ended ≡ true) × IsAtEnd after) ⊎ (length text ≡ most)
  pub within : length text ≤ most
