-- What a call over a handle answers: of the program that the handle keeps.
use Rattle.std.specs.Prelude.{◌≡◌, ℕ, List, Option, Some, None, IsSome}
use Rattle.flow_kept.specs.Kept.{KeptProgram}
use Rattle.flow_records.specs.Faults.{IsFaultOf}
use Rattle.flow_records.specs.declared.fault.Fault.{Fault}
use Rattle.flow_records.specs.declared.fault.Fault.TheVariants as fault
use Rattle.tac_program.specs.Programs.{Program}
use Rattle.tac_program.specs.declared.limits.Limits.{Limits}
use Rattle.tacflow_c.specs.Statuses.{status_of}

-- why a handle is not opened with a text within limits
abbrev pub IsOpenFault : Limits → List ℕ → Option KeptProgram → Fault → Type 0
IsOpenFault limits text before fault.BadHandle = IsSome before
IsOpenFault limits text before fault = (before ≡ None) × IsFaultOf limits text fault

-- Of an open handle the answer holds of its program without a fault; with one what is kept is as it was, and the fault has its cause in the
-- program. That a handle is closed is the fault then.
abbrev pub Asked : Option KeptProgram → (Program → Type 0) → (Fault → Type 0) → (Program → Fault → Type 0) → Option Fault → Type 0
Asked None Answer IsKept IsFault found = (found ≡ Some fault.BadHandle) × IsKept fault.BadHandle
Asked (Some kept) Answer IsKept IsFault None = Answer kept.program
Asked (Some kept) Answer IsKept IsFault (Some fault) = IsKept fault × IsFault kept.program fault

-- A call over a handle has answered with this status, and the handle keeps what it kept.
pub record IsAsked (status : ℕ) (old new : Option KeptProgram) (Answer : Program → Type 0) (IsKept : Fault → Type 0)
    (IsFault : Program → Fault → Type 0) : Type 0 where
  pub fault : Option Fault
  pub status_is : status ≡ status_of fault
  pub handle_is : new ≡ old
  pub outcome : Asked old Answer IsKept IsFault fault
