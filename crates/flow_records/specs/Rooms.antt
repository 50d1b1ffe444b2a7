-- A list that is made for a caller, in room of the caller's: a text, or parts of a program.
use Rattle.std.specs.Prelude.{◌≡◌, ℕ, ◌<◌, List, ◌++◌, length, drop}
use Rattle.flow_records.specs.Faults.{IsMemoryFault}
use Rattle.flow_records.specs.declared.fault.Fault.{Fault}
use Rattle.flow_records.specs.declared.fault.Fault.TheVariants as fault

-- The room begins with such a list and is otherwise as it was, and so long it is.
pub record HoldsList {A : Type 0} (IsList : List A → Type 0) (old new : List A) (size : ℕ) : Type 0 where
  pub list : List A
  pub is_list : IsList list
  pub size_is : size ≡ length list
  pub items : new ≡ list ++ drop (length list) old

-- There is not room enough for such a list, and so long it is.
pub record NeedsRoom {A : Type 0} (IsList : List A → Type 0) (room size : ℕ) : Type 0 where
  pub list : List A
  pub is_list : IsList list
  pub size_is : size ≡ length list
  pub too_small : room < length list

-- After a fault the room is as it was, and so is the size, but where it is room that lacks.
abbrev pub IsListKept : {A : Type 0} → List A → List A → ℕ → ℕ → Fault → Type 0
IsListKept old new size_before size fault.BadRoom = new ≡ old
IsListKept old new size_before size _ = (new ≡ old) × (size ≡ size_before)

-- why there is no such list in such room; its length is told where it is room that lacks
abbrev pub IsListFault : {A : Type 0} → (List A → Type 0) → ℕ → ℕ → Fault → Type 0
IsListFault IsList room size fault.BadRoom = NeedsRoom IsList room size
IsListFault IsList room size fault = IsMemoryFault fault
