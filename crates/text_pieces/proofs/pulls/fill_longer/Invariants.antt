-- What was pulled so far fills the text's beginning. Where it fills all of it, the source has not ended; else it has.
use Rattle.std.proofs.Common.{◌≡◌, ◌≤◌, ◌<◌, ◌-◌, ◌⊎◌, true, false, length, take}
use Rattle.std.specs.Io.KnownBytes.{Consumes, IsAtEnd}
use Rattle.text_pieces.proofs.pulls.fill_longer.Given as goal

abbrev pub invariant-loop-filled : goal.invariant-loop-filled
invariant-loop-filled g l = record {
  within : length l.text.items ≤ l.most;
  some : 0 < l.most → 0 < length l.text.items;
  filled : l.filled ≤ length l.text.items;
  bytes : Consumes (g.S.Source.remaining l.fn.source) (g.S.Source.remaining l.source) (take l.filled l.text.items);
  all : ((g.S.Source.ended l.source ≡ true) × IsAtEnd (g.S.Source.remaining l.source)) ⊎ (l.filled ≡ length l.text.items);
  running : l.filled ≡ length l.text.items → g.S.Source.ended l.source ≡ false;
  faults : g.S.Source.faults l.source ≡ g.S.Source.faults l.fn.source;
}

abbrev pub decreases-loop-filled : goal.decreases-loop-filled
decreases-loop-filled g l = l.most - length l.text.items
