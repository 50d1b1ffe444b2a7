use Rattle.std.proofs.Common.{◌≡◌, ◌++◌, codes, map, take}
use Rattle.flow_views.specs.Json.{joined}
use Rattle.flow_steps.specs.code.Told.{known_told}
use Rattle.flow_steps.proofs.lines.push_all_known.Given as goal

abbrev pub invariant-loop-place : goal.invariant-loop-place
invariant-loop-place l =
    l.text.items ≡ l.fn.text.items ++ (codes "[" ++ joined (codes ",") (map (known_told l.frame l.columns) (take l.place l.points)))
