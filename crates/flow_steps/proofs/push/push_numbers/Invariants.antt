use Rattle.std.proofs.Common.{◌≡◌, ◌++◌, codes, decimal, map, take}
use Rattle.flow_views.specs.Json.{joined}
use Rattle.flow_steps.proofs.push.push_numbers.Given as goal

abbrev pub invariant-loop-place : goal.invariant-loop-place
invariant-loop-place l = l.text.items ≡ l.fn.text.items ++ (codes "[" ++ joined (codes ",") (map decimal (take l.place l.numbers)))
