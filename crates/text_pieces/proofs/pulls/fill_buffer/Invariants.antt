-- What was pulled so far fills the buffer's beginning, and no pull showed the end or a fault.
use Rattle.std.proofs.Common.{length, ◌-◌, ◌≡◌, ◌≤◌, false, take}
use Rattle.std.specs.Io.KnownBytes.{Consumes}
use Rattle.text_pieces.proofs.pulls.fill_buffer.Given as goal

abbrev pub invariant-loop-filled : goal.invariant-loop-filled
invariant-loop-filled g l = record {
  within : l.filled ≤ length l.buf;
  bytes : Consumes (g.S.Source.remaining l.initial.source) (g.S.Source.remaining l.source) (take l.filled l.buf);
  running : g.S.Source.ended l.source ≡ false;
  faults : g.S.Source.faults l.source ≡ g.S.Source.faults l.initial.source;
}

abbrev pub decreases-loop-filled : goal.decreases-loop-filled
decreases-loop-filled g l = length l.initial.buf - l.filled
