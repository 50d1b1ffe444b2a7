-- What was taken so far is a beginning of the bytes.
use Rattle.std.proofs.Common.{length, ◌-◌, ◌≤◌, take}
use Rattle.text_pieces.specs.Pieces.{Writes}
use Rattle.text_pieces.proofs.pieces.Pieces.write_long.Given as goal

abbrev pub invariant-loop-taken : goal.invariant-loop-taken
invariant-loop-taken g l = record {
  within : l.taken ≤ length l.bytes;
  writes : Writes g.K.Sink l.initial.self l.self (take l.taken l.bytes);
}

abbrev pub decreases-loop-taken : goal.decreases-loop-taken
decreases-loop-taken g l = length l.bytes - l.taken
