-- What a search for many bits has told so far.
use Rattle.std.specs.Prelude.{◌≡◌, ◌<◌, ◌++◌, ◌∷◌, [], ℕ, List, Some, length, slice_get, take}
use Rattle.flow_graph.specs.Points.{point_count}
use Rattle.gen_kill.specs.Selections.{Selection, column_count}
use Rattle.flow_records.specs.Numbers.{analysis_of}
use Rattle.reason_records.specs.Whys.{AreWhys, IsToldWhy}
use Rattle.reason_records.specs.declared.why.NumberedHop.{NumberedHop}
use Rattle.reason_records.specs.declared.whys.NumberedWhy.{NumberedWhy}

-- the program has the point, and the problem the bit; of each that is asked
abbrev pub IsAskedIn : Selection → NumberedWhy → Type 0
IsAskedIn selection why = (why.point < point_count selection.program) × (why.bit < column_count selection)

abbrev pub AreAskedIn : Selection → List NumberedWhy → Type 0
AreAskedIn selection asked = (i : ℕ) (why : NumberedWhy) → slice_get asked i ≡ Some why → IsAskedIn selection why

-- Of one bit more it is told, behind the hops that there were.
pub record IsToldMore (selection : Selection) (asked : NumberedWhy) (whys_before whys : List NumberedWhy) (hops_before hops : List NumberedHop) : Type 0 where
  pub own : List NumberedHop
  pub told : NumberedWhy
  pub hops_are : hops ≡ hops_before ++ own
  pub whys_are : whys ≡ whys_before ++ told ∷ []
  pub end : told.end ≡ length hops
  pub why : (number : ℕ) → analysis_of number ≡ Some selection.analysis → IsToldWhy selection.program number asked told own

-- so many that are asked are told
abbrev pub AreToldTo : Selection → ℕ → List NumberedWhy → ℕ → List NumberedWhy → List NumberedHop → Type 0
AreToldTo selection number asked count whys hops =
    analysis_of number ≡ Some selection.analysis → AreWhys selection.program number (take count asked) whys hops
