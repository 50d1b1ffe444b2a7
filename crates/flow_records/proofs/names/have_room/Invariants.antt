-- What is left is the room without the names so far.
use Rattle.std.proofs.Common.{◌≡◌, ◌+◌, length, take}
use Rattle.std.specs.List.{concat}
use Rattle.flow_records.specs.Names.{names_of}
use Rattle.flow_records.proofs.names.have_room.Given as goal

abbrev pub invariant-loop-number : goal.invariant-loop-number
invariant-loop-number l = record {
  left : l.left + length (concat (take l.number (names_of l.named l.program))) ≡ l.fn.room;
}
