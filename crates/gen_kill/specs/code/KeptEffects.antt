-- How a number that may be missing is kept.
use Rattle.std.specs.Prelude.{ℕ, Bool, true, false, Option, Some, None}

-- a number, where there is one
abbrev pub number_if : Bool → ℕ → Option ℕ
number_if true number = Some number
number_if false number = None
