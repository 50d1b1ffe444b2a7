-- A text that goes to a sink in pieces.
use Rattle.std.specs.Prelude.{◌≡◌, ℕ, ◌+◌, ◌-◌, ◌^◌, ◌<◌, Bool, true, false, List, [], ◌++◌, Option, take}
use Rattle.std.specs.Borrow.{GName, MutBor}
use Rattle.std.specs.Io.KnownBytes.{Appends, Keeps, append_known}
use Rattle.text_pieces.specs.Devices.{AppendsBeginning}
use Rattle.text_pieces.specs.declared.device.Sink.{Ghosts as SinkMembers}
use Rattle.text_pieces.specs.declared.pieces.Pieces.{Pieces}

-- Where a text stands that is on its way: by which reference to a sink it goes, what the sink holds, what waits to be pushed, whether a
-- push or the flush was answered by a fault, and how many of the sink's answers were faults.
pub record Outlet : Type 0 where
  pub reference : GName
  pub pushed : Option (List ℕ)
  pub waiting : List ℕ
  pub failed : Bool
  pub faults : ℕ

-- how many faults a step has met: after one nothing is pushed any more
abbrev pub faults_met : Bool → Bool → ℕ
faults_met false true = 1
faults_met _ _ = 0

-- The text was taken, and goes to the same sink as before. As long as there is no fault, all of it stands behind what went before,
-- pushed or waiting. Where there is one, a beginning of what waited and of the text has gone out, and after it nothing goes out.
pub record Takes (old new : Outlet) (text : List ℕ) : Type 0 where
  pub same_reference : new.reference ≡ old.reference
  pub beginning : old.failed ≡ false → AppendsBeginning old.pushed new.pushed (old.waiting ++ text)
  pub all : old.failed ≡ false → new.failed ≡ false → Appends (append_known old.pushed old.waiting) (append_known new.pushed new.waiting) text
  pub stays : old.failed ≡ true → (new.failed ≡ true) × Keeps old.pushed new.pushed
  pub counted : new.faults ≡ old.faults + faults_met old.failed new.failed

-- One more push can be made, or none is.
abbrev pub IsOpen : Outlet → Type 0
IsOpen outlet = outlet.failed ≡ false → outlet.faults < 2 ^ 32 - 1

-- nothing was taken yet of a text that goes to this sink
abbrev pub fresh : {T : Type 0} → SinkMembers T → MutBor T → Outlet
fresh members sink = record {
  reference = sink.ghost_name;
  pushed = members.contents sink.now;
  waiting = [];
  failed = false;
  faults = members.faults sink.now;
}

-- where the text of a writer stands, as the members of its sink tell
abbrev pub outlet : {T : Type 0} → SinkMembers T → Pieces T → Outlet
outlet members pieces = record {
  reference = pieces.sink.ghost_name;
  pushed = members.contents pieces.sink.now;
  waiting = take pieces.filled pieces.buffer.now;
  failed = pieces.failed;
  faults = members.faults pieces.sink.now;
}

-- This writer can take a text.
abbrev pub CanWrite : {T : Type 0} → SinkMembers T → Pieces T → Type 0
CanWrite members pieces = IsOpen (outlet members pieces)

-- This writer took this text.
abbrev pub Writes : {T : Type 0} (members : SinkMembers T) (old new : Pieces T) (text : List ℕ) → Type 0
Writes members old new text = Takes (outlet members old) (outlet members new) text
