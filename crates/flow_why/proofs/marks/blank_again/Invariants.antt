use Rattle.std.proofs.Common.{◌≡◌, length}
use Rattle.flow_why.proofs.found.Blanking.{AreLeft}
use Rattle.flow_why.proofs.marks.blank_again.Given as goal

abbrev pub invariant-loop-mark : goal.invariant-loop-mark
invariant-loop-mark l = (length l.places.items ≡ length l.fn.places.items) × AreLeft l.found l.mark-index l.places.items
