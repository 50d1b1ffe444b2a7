use Rattle.std.proofs.Common.{◌≡◌, length}
use Rattle.flow_why.specs.code.Scopes.{Stays}
use Rattle.flow_why.proofs.scope.spread.Given as goal

abbrev pub invariant-loop : goal.invariant-loop
invariant-loop l = record {
  count : length l.marks ≡ length l.fn.marks;
  stays : Stays l.fn.marks l.marks;
}
