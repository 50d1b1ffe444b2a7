-- What was pushed so far is the text's beginning, and no push was a fault.
use Rattle.std.proofs.Common.{length, ◌-◌, ◌≡◌, ◌≤◌, take}
use Rattle.std.specs.Io.KnownBytes.{Appends}
use Rattle.text_pieces.proofs.pieces.push_all.Given as goal

abbrev pub invariant-loop-pushed : goal.invariant-loop-pushed
invariant-loop-pushed g l = record {
  within : l.pushed ≤ length l.bytes;
  bytes : Appends (g.K.Sink.contents l.initial.sink) (g.K.Sink.contents l.sink) (take l.pushed l.bytes);
  faults : g.K.Sink.faults l.sink ≡ g.K.Sink.faults l.initial.sink;
}

abbrev pub decreases-loop-pushed : goal.decreases-loop-pushed
decreases-loop-pushed g l = length l.bytes - l.pushed
