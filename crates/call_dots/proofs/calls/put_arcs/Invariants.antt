use Rattle.std.proofs.Common.{◌≡◌, ◌++◌, map, take}
use Rattle.call_dots.specs.Calls.{arc_of}
use Rattle.call_dots.proofs.calls.put_arcs.Given as goal

abbrev pub invariant-loop-call : goal.invariant-loop-call
invariant-loop-call l = l.arcs.items ≡ l.fn.arcs.items ++ map arc_of (take l.call-index l.calls)
