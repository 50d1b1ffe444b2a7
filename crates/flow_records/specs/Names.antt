-- The names of a program, one after the other.
use Rattle.std.specs.Prelude.{◌≡◌, ℕ, ◌+◌, ◌<◌, ◌≤◌, None, Some, List, ◌++◌, length, take, drop, slice_index}
use Rattle.std.specs.List.{concat}
use Rattle.tac_program.specs.declared.limits.Limits.{Limits}
use Rattle.tac_reader.specs.Faults.{refusal_within}
use Rattle.tac_program.specs.Programs.{Program}
use Rattle.tac_reader.specs.Parses.{program_of}
use Rattle.flow_records.specs.declared.names.Named.{Named}
use Rattle.flow_records.specs.declared.names.Named.TheVariants.{Procedures, Variables}
use Rattle.flow_records.specs.declared.fault.Fault.{Fault}
use Rattle.flow_records.specs.declared.fault.Fault.TheVariants as fault

abbrev pub names_of : Named → Program → List (List ℕ)
names_of Procedures program = program.procedure_names
names_of Variables program = program.variable_names

-- The bytes begin with the names and are otherwise as they were, and each end is that of its name.
pub record AreNames (names : List (List ℕ)) (ends old new : List ℕ) : Type 0 where
  pub count : length ends ≡ length names
  pub end : (n : ℕ) → n < length names → slice_index ends n ≡ length (concat (take (n + 1) names))
  pub bytes : new ≡ concat names ++ drop (length (concat names)) old

-- why a text has no names within limits in so many ends and bytes
abbrev pub IsNamesFault : Limits → List ℕ → Named → ℕ → ℕ → Fault → Type 0
IsNamesFault limits text named ends bytes (fault.Refused refusal) = refusal_within limits text ≡ Some refusal
IsNamesFault limits text named ends bytes fault.BadRoom =
    (refusal_within limits text ≡ None)
    × (¬ ((ends ≡ length (names_of named (program_of text))) × (length (concat (names_of named (program_of text))) ≤ bytes)))
IsNamesFault limits text named ends bytes fault.OutOfMemory = Unit {0}
IsNamesFault limits text named ends bytes _ = ⊥

-- why there are no names in so many ends and bytes
abbrev pub IsNamesRoomFault : Program → Named → ℕ → ℕ → Fault → Type 0
IsNamesRoomFault program named ends bytes fault.BadRoom =
    ¬ ((ends ≡ length (names_of named program)) × (length (concat (names_of named program)) ≤ bytes))
IsNamesRoomFault program named ends bytes _ = ⊥
