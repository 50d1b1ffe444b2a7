use Rattle.std.proofs.Common.{◌≡◌, ◌++◌, codes, map, take}
use Rattle.flow_views.specs.Json.{joined}
use Rattle.flow_steps.specs.code.Told.{change_told}
use Rattle.flow_steps.proofs.lines.push_changes.Given as goal

abbrev pub invariant-loop-place : goal.invariant-loop-place
invariant-loop-place l =
    l.text.items ≡ l.fn.text.items ++ (codes "[" ++ joined (codes ",") (map (change_told l.frame l.old l.new) (take l.place l.points)))
