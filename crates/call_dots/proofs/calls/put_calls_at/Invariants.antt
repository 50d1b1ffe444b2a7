use Rattle.std.proofs.Common.{◌≡◌, ◌++◌, map, take}
use Rattle.call_dots.proofs.calls.put_calls_at.Given as goal

abbrev pub invariant-loop-callee : goal.invariant-loop-callee
invariant-loop-callee l = l.calls.items ≡ l.fn.calls.items ++ map (λ callee. record { caller = l.caller; callee = callee; site = l.site }) (take l.callee-index l.callee-items)
