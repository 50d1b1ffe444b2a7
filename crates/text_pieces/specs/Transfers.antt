-- What each fault of a transfer tells.
use Rattle.std.specs.Prelude.{ℕ, Result, Err}
use Rattle.text_pieces.specs.declared.transfer.TransferFault.{TransferFault}
use Rattle.text_pieces.specs.declared.transfer.TransferFault.TheVariants as transfer

-- A fact where the fault is the device's.
abbrev pub WhereDevice : Type 0 → TransferFault → Type 0
WhereDevice P transfer.Device = P
WhereDevice P transfer.OutOfMemory = Unit {0}

-- A fact where it is not.
abbrev pub UnlessDevice : Type 0 → TransferFault → Type 0
UnlessDevice P transfer.Device = Unit {0}
UnlessDevice P transfer.OutOfMemory = P

-- How many faults of the device an answer tells.
abbrev pub device_faults_in : {T : Type 0} → Result T TransferFault → ℕ
device_faults_in (Err transfer.Device) = 1
device_faults_in _ = 0
