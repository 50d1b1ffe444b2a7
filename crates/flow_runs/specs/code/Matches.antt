-- What the matches hold once `clap` has checked them.
use Rattle.std.specs.Prelude.{◌≡◌, ℕ, List, Some, pos, is_some, true}
use Rattle.clap.specs.Lexer.{without_minus}
use Rattle.clap.specs.Values.{IsSignedIn}
use Rattle.clap.specs.Words.{Row, Text, first_of, one_of}
use Rattle.flow_runs.specs.Words.{kind_named}

-- For this name they hold a number from 1 to the most, which is read without a sign.
abbrev pub HoldsNumber : List Row → Text → ℕ → Type 0
HoldsNumber rows name most =
    (text : Text) × (one_of name rows ≡ Some (without_minus text)) × IsSignedIn (pos 1) (pos most) text

-- For this name they hold the word of a kind.
abbrev pub HoldsKind : {T : Type 0} → List (Text × T) → List Row → Text → Type 0
HoldsKind kinds rows name = (text : Text) × (first_of name rows ≡ Some text) × (is_some (kind_named kinds text) ≡ true)
