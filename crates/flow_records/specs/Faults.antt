-- Why there is no answer: what each fault says of a text, of a program, and of the room for the answer.
use Rattle.std.specs.Prelude.{◌≡◌, ℕ, List, Some, None}
use Rattle.flow_graph.specs.Limits.{HasFewBits, HasFewPoints, HasManyBits, HasManyPoints}
use Rattle.flow_graph.specs.declared.analysis.Analysis.{Analysis}
use Rattle.flow_kept.specs.Facts.{AreInRange, HasRoom}
use Rattle.tac_lines.specs.declared.refusal.Refusal.{Refusal}
use Rattle.tac_program.specs.Programs.{Program}
use Rattle.tac_program.specs.declared.limits.Limits.{Limits}
use Rattle.tac_reader.specs.Faults.{refusal_within}
use Rattle.tac_reader.specs.Parses.{program_of}
use Rattle.flow_records.specs.declared.fault.Fault.{Fault}
use Rattle.flow_records.specs.declared.fault.Fault.TheVariants as fault

-- Within limits the text is a program and has a graph.
abbrev pub HasGraph : Limits → List ℕ → Type 0
HasGraph limits text = (refusal_within limits text ≡ None) × HasFewPoints limits (program_of text) × HasFewBits limits (program_of text)

-- a program has no graph within limits for this cause; want of memory is no fact of it
abbrev pub IsOverLimit : Limits → Program → Fault → Type 0
IsOverLimit limits program fault.TooManyPoints = HasManyPoints limits program
IsOverLimit limits program fault.TooManyBits = HasManyBits limits program
IsOverLimit limits program fault.OutOfMemory = Unit {0}
IsOverLimit limits program _ = ⊥

-- why a text has no program within limits
abbrev pub IsUnread : Limits → List ℕ → Fault → Type 0
IsUnread limits text (fault.Refused refusal) = refusal_within limits text ≡ Some refusal
IsUnread limits text fault.OutOfMemory = Unit {0}
IsUnread limits text _ = ⊥

-- why a text has no program and no graph within limits
abbrev pub IsFaultOf : Limits → List ℕ → Fault → Type 0
IsFaultOf limits text (fault.Refused refusal) = refusal_within limits text ≡ Some refusal
IsFaultOf limits text fault.TooManyPoints = (refusal_within limits text ≡ None) × HasManyPoints limits (program_of text)
IsFaultOf limits text fault.TooManyBits = (refusal_within limits text ≡ None) × HasManyBits limits (program_of text)
IsFaultOf limits text fault.OutOfMemory = Unit {0}
IsFaultOf limits text _ = ⊥

-- why a graph has no facts in ranges and in such room
abbrev pub IsBadTable : Program → Analysis → ℕ → ℕ → ℕ → ℕ → ℕ → ℕ → Fault → Type 0
IsBadTable program analysis from until lo hi flags words fault.BadRange = ¬ (AreInRange program analysis from until lo hi)
IsBadTable program analysis from until lo hi flags words fault.BadRoom =
    AreInRange program analysis from until lo hi × (¬ (HasRoom from until lo hi flags words))
IsBadTable program analysis from until lo hi flags words _ = ⊥

-- why room for so many parts is not right, where so many are needed
abbrev pub IsBadRoom : ℕ → ℕ → Fault → Type 0
IsBadRoom room needed fault.BadRoom = ¬ (room ≡ needed)
IsBadRoom room needed _ = ⊥

-- why a text has no answer in room for so many parts, where so many are needed
abbrev pub IsRoomFault : Limits → List ℕ → ℕ → ℕ → Fault → Type 0
IsRoomFault limits text room needed fault.BadRoom = HasGraph limits text × (¬ (room ≡ needed))
IsRoomFault limits text room needed fault = IsFaultOf limits text fault

-- nothing but memory lacks
abbrev pub IsMemoryFault : Fault → Type 0
IsMemoryFault fault.OutOfMemory = Unit {0}
IsMemoryFault _ = ⊥

-- why there is no answer in room for so many parts, where so many are needed
abbrev pub IsPartsFault : ℕ → ℕ → Fault → Type 0
IsPartsFault room needed fault.BadRoom = ¬ (room ≡ needed)
IsPartsFault room needed fault = IsMemoryFault fault
