use Rattle.call_dots.specs.code.Calls.{AreEdgesBefore}
use Rattle.call_dots.proofs.calls.all_edges.Given as goal

abbrev pub invariant-loop-procedure : goal.invariant-loop-procedure
invariant-loop-procedure l = AreEdgesBefore l.fn.graph l.procedure l.all
