-- What is kept of a program, and why a text is not kept.
use Rattle.std.specs.Prelude.{◌≡◌, ℕ, List, None, Some}
use Rattle.flow_graph.specs.Limits.{HasManyBits, HasManyPoints}
use Rattle.flow_kept.specs.declared.fault.KeepFault.{KeepFault}
use Rattle.flow_kept.specs.declared.fault.KeepFault.TheVariants as fault
use Rattle.tac_program.specs.Programs.{Program}
use Rattle.tac_program.specs.declared.limits.Limits.{Limits}
use Rattle.tac_reader.specs.Faults.{refusal_within}
use Rattle.tac_reader.specs.Parses.{program_of}

-- A program, and limits within which it has a graph.
pub record KeptProgram : Type 0 where
  pub program : Program
  pub limits : Limits

-- why a text is not kept within limits; want of memory is no fact of it
abbrev pub IsUnkept : Limits → List ℕ → KeepFault → Type 0
IsUnkept limits text (fault.Refused refusal) = refusal_within limits text ≡ Some refusal
IsUnkept limits text fault.TooManyPoints = (refusal_within limits text ≡ None) × HasManyPoints limits (program_of text)
IsUnkept limits text fault.TooManyBits = (refusal_within limits text ≡ None) × HasManyBits limits (program_of text)
IsUnkept limits text fault.OutOfMemory = Unit {0}
