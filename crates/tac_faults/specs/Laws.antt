-- What one wants to know of the faults that are found.
use Rattle.std.specs.Prelude.{◌≡◌, ℕ, ◌↔◌, List, [], None, slice_get}
use Rattle.tac_faults.specs.Listed.{refusals_within}
use Rattle.tac_program.specs.declared.limits.Limits.{Limits}
use Rattle.tac_reader.specs.Faults.{refusal_within}

-- The first one is that for which the reader refuses the text.
abbrev pub FirstIsTheReaders : Type 0
FirstIsTheReaders = (limits : Limits) (text : List ℕ) → slice_get (refusals_within limits text) 0 ≡ refusal_within limits text

-- There are none exactly where it refuses nothing.
abbrev pub NoneIsAccepted : Type 0
NoneIsAccepted = (limits : Limits) (text : List ℕ) → (refusals_within limits text ≡ []) ↔ (refusal_within limits text ≡ None)
