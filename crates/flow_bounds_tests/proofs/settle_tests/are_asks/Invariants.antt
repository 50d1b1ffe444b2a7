use Rattle.std.proofs.Common.{◌≡◌, ◌<◌, ℕ, Some, slice_get}
use Rattle.flow_bounds.specs.Asked.{IsAskOf}
use Rattle.flow_bounds.specs.declared.asked.Ask.{Ask}
use Rattle.flow_bounds_tests.proofs.settle_tests.are_asks.Given as goal

abbrev pub invariant-loop-number : goal.invariant-loop-number
invariant-loop-number l = (i : ℕ) (ask : Ask) → i < l.number → slice_get l.asks i ≡ Some ask → IsAskOf l.problem ask
