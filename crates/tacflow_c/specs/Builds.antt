-- A handle that is opened with the program of arrays.
use Rattle.std.specs.Prelude.{◌≡◌, ℕ, All, Option, Some, None, Result, Ok, Err, IsSome}
use Rattle.flow_builder.specs.Built.{program_of}
use Rattle.flow_builder.specs.Checks.{AreFew, Fit, IsBuildFault, IsKnown}
use Rattle.flow_builder.specs.declared.arrays.Arrays.{Arrays}
use Rattle.flow_builder.specs.declared.fault.BuildFault.{BuildFault}
use Rattle.flow_builder.specs.declared.fault.BuildFault.TheVariants as build_fault
use Rattle.flow_graph.specs.Limits.{HasFewBits, HasFewPoints}
use Rattle.flow_kept.specs.Kept.{KeptProgram}
use Rattle.tac_program.specs.declared.limits.Limits.{Limits}
use Rattle.flow_records.specs.Faults.{IsOverLimit}
use Rattle.flow_records.specs.Numbers.{limits_of}
use Rattle.tacflow_c.specs.Statuses.{status_of}
use Rattle.tacflow_c.specs.declared.builds.BuildPlace.{BuildPlace}
use Rattle.tacflow_c.specs.declared.builds.Unbuilt.{Unbuilt}
use Rattle.tacflow_c.specs.declared.builds.Unbuilt.TheVariants.{NotBuilt, NotOpened}
use Rattle.flow_records.specs.declared.fault.Fault.TheVariants as fault

-- what is wrong with arrays, by numbers: which kind of thing, and which of them
abbrev pub place_of : BuildFault → BuildPlace
place_of (build_fault.BadStatement n) = record { fault = 1; number = n }
place_of (build_fault.BadLabel n) = record { fault = 2; number = n }
place_of (build_fault.BadProcedureName n) = record { fault = 3; number = n }
place_of (build_fault.BadVariableName n) = record { fault = 4; number = n }
place_of (build_fault.BadLabelName n) = record { fault = 5; number = n }
place_of build_fault.BadCounts = record { fault = 6; number = 0 }
place_of build_fault.NoMain = record { fault = 7; number = 0 }
place_of build_fault.TooManyProcedures = record { fault = 8; number = 0 }
place_of build_fault.TooLong = record { fault = 9; number = 0 }
place_of build_fault.OutOfMemory = record { fault = 0; number = 0 }

-- the status of a fault, and the place that is told with it
abbrev pub build_status : Option Unbuilt → ℕ
build_status None = 0
build_status (Some (NotBuilt f)) = 9
build_status (Some (NotOpened f)) = status_of (Some f)

abbrev pub build_place : Option Unbuilt → BuildPlace → BuildPlace
build_place (Some (NotBuilt f)) old = place_of f
build_place _ old = old

-- the fault that an answer is
abbrev pub unbuilt_in : {A : Type 0} → Result A Unbuilt → Option Unbuilt
unbuilt_in (Ok answer) = None
unbuilt_in (Err fault) = Some fault

-- Arrays are of a program, each number of it used, which has a graph within limits.
pub record IsBuildable (limits : Limits) (arrays : Arrays) : Type 0 where
  pub few : AreFew limits arrays
  pub fit : Fit arrays
  pub known : All (IsKnown arrays.callees.now) arrays.statements.now
  pub few_points : HasFewPoints limits (program_of arrays)
  pub few_bits : HasFewBits limits (program_of arrays)

-- why a handle is not opened with arrays within limits
abbrev pub IsUnbuilt : Limits → Arrays → Option KeptProgram → Unbuilt → Type 0
IsUnbuilt limits arrays before (NotBuilt f) = IsBuildFault limits arrays f
IsUnbuilt limits arrays before (NotOpened fault.BadHandle) = IsSome before
IsUnbuilt limits arrays before (NotOpened f) = IsOverLimit limits (program_of arrays) f

-- Without a fault the handle was closed and keeps the arrays' program; with one it is as it was, and the fault has its cause.
abbrev pub Building : Option Limits → Arrays → Option KeptProgram → Option KeptProgram → Option Unbuilt → Type 0
Building None arrays old new found = (found ≡ Some (NotOpened fault.BadLimits)) × (new ≡ old)
Building (Some limits) arrays old new None =
    (old ≡ None) × (new ≡ Some (record { program = program_of arrays; limits = limits })) × IsBuildable limits arrays
Building (Some limits) arrays old new (Some f) = (new ≡ old) × IsUnbuilt limits arrays old f

-- A call that opens a handle with arrays, within the limits of a number, has answered with this status.
pub record AnswersBuild (status number : ℕ) (arrays : Arrays) (old new : Option KeptProgram) (place_old place_new : BuildPlace) : Type 0 where
  pub fault : Option Unbuilt
  pub status_is : status ≡ build_status fault
  pub place_is : place_new ≡ build_place fault place_old
  pub outcome : Building (limits_of number) arrays old new fault
