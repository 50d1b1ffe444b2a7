-- Where names of a table stand in a text.
use Rattle.std.specs.Prelude.{◌≡◌, ℕ, List, Some, bytes_eq, position, slice_range}
use Rattle.tac_reader.specs.declared.occurrences.Occurrence.{Occurrence}

-- The bytes there are the name of that number.
abbrev pub IsNumberedIn : List ℕ → List (List ℕ) → Occurrence → Type 0
IsNumberedIn text names place = position (bytes_eq (slice_range text place.start place.stop)) names ≡ Some place.number
