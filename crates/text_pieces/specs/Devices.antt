-- What sources and sinks do to their bytes and to their counts of faults.
use Rattle.std.specs.Prelude.{ℕ, List, Bool, false, ◌==◌, ◌&&◌, nat_lt, take, Option, Result, Ok, Err}
use Rattle.std.specs.Io.KnownBytes.{Appends}

-- How many faults an answer is.
abbrev pub faults_in : {T E : Type 0} → Result T E → ℕ
faults_in (Ok x) = 0
faults_in (Err e) = 1

-- A pull into a buffer of this room shows the end of the source: there was room, and nothing came.
abbrev pub shows_end : {E : Type 0} → Result ℕ E → ℕ → Bool
shows_end (Ok n) room = n == 0 && nat_lt 0 room
shows_end (Err e) room = false

-- A beginning of the text, which may be all of it, was appended to the known bytes.
abbrev pub AppendsBeginning : Option (List ℕ) → Option (List ℕ) → List ℕ → Type 0
AppendsBeginning old new text = (n : ℕ) × Appends old new (take n text)
