use Rattle.std.proofs.Common.{◌≡◌, ◌<◌, ℕ, get_or, length, take}
use Rattle.call_dots.specs.Calls.{count_of}
use Rattle.call_dots.proofs.calls.count_calls.Given as goal

abbrev pub invariant-loop-call : goal.invariant-loop-call
invariant-loop-call l = record {
  count : length l.counts.items ≡ length l.fn.counts.items;
  each : (callee : ℕ) → callee < length l.fn.counts.items → get_or l.counts.items callee 0 ≡ count_of (take l.call-index l.calls) callee;
}
