-- What a call answers: a status, and where there is a fault what it is.
use Rattle.std.specs.Prelude.{◌≡◌, ℕ, Option, Some, None, Result, Ok, Err}
use Rattle.flow_records.specs.Numbers.{limits_of}
use Rattle.flow_records.specs.declared.fault.Fault.{Fault}
use Rattle.flow_records.specs.declared.fault.Fault.TheVariants as fault
use Rattle.tac_lines.specs.LineFaults.{number_of_kind}
use Rattle.tac_lines.specs.declared.refusal.Refusal.{Refusal}
use Rattle.tac_program.specs.declared.limits.Limits.{Limits}
use Rattle.tacflow_c.specs.declared.statuses.Place.{Place}

-- a refusal by its numbers
abbrev pub refusal_place : Refusal → Place
refusal_place refusal = record { number = number_of_kind refusal.kind; line = refusal.line; column = refusal.column }

-- the status of a fault; 0 says that there is none
abbrev pub status_of : Option Fault → ℕ
status_of None = 0
status_of (Some (fault.Refused refusal)) = 1
status_of (Some fault.OutOfMemory) = 2
status_of (Some fault.BadAnalysis) = 3
status_of (Some fault.BadRange) = 4
status_of (Some fault.BadRoom) = 5
status_of (Some fault.BadLimits) = 7
status_of (Some fault.BadHandle) = 8
status_of (Some fault.TooManyPoints) = 21
status_of (Some fault.TooManyBits) = 22

-- the fault that an answer is
abbrev pub fault_in : {A : Type 0} → Result A Fault → Option Fault
fault_in (Ok answer) = None
fault_in (Err fault) = Some fault

-- where a text is refused, once a call has told its fault
abbrev pub place_after : Option Fault → Place → Place
place_after (Some (fault.Refused refusal)) old = refusal_place refusal
place_after _ old = old

-- Without a fault the answer holds within the limits; with one what is kept is as it was, and the fault has its cause within them. Where
-- there are no limits, that is the fault.
abbrev pub Outcome : Option Limits → (Limits → Type 0) → (Fault → Type 0) → (Limits → Fault → Type 0) → Option Fault → Type 0
Outcome None Answer IsKept IsFault found = (found ≡ Some fault.BadLimits) × IsKept fault.BadLimits
Outcome (Some limits) Answer IsKept IsFault None = Answer limits
Outcome (Some limits) Answer IsKept IsFault (Some fault) = IsKept fault × IsFault limits fault

-- A call within the limits of a number has answered with this status. Of what it writes, the place alone is written where there is a fault:
-- that of a refusal; and a text's size, where the room is too small for it.
pub record IsAnswered (status number : ℕ) (old new : Place) (Answer : Limits → Type 0) (IsKept : Fault → Type 0)
    (IsFault : Limits → Fault → Type 0) : Type 0 where
  pub fault : Option Fault
  pub status_is : status ≡ status_of fault
  pub place_is : new ≡ place_after fault old
  pub outcome : Outcome (limits_of number) Answer IsKept IsFault fault
