-- Bytes in vectors, told without these.
use Rattle.std.specs.Prelude.{ℕ, List, Result, Ok, Err}
use Rattle.std.specs.declared.vec.Vec.{Vec}

abbrev pub bytes_of : {A : Type 0} → Result (Vec ℕ A) (Vec ℕ A) → Result (List ℕ) (List ℕ)
bytes_of (Ok text) = Ok text.items
bytes_of (Err text) = Err text.items
