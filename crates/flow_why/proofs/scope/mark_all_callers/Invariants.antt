use Rattle.std.proofs.Common.{◌≡◌, length}
use Rattle.flow_why.specs.code.Scopes.{Stays}
use Rattle.flow_why.proofs.scope.mark_all_callers.Given as goal

abbrev pub invariant-loop-procedure : goal.invariant-loop-procedure
invariant-loop-procedure l = record {
  count : length l.marks ≡ length l.fn.marks;
  stays : Stays l.fn.marks l.marks;
}
