use Rattle.std.proofs.Common.{◌≡◌, ◌++◌, codes, map, take}
use Rattle.flow_views.specs.Json.{joined}
use Rattle.flow_views.specs.Views.{analysis_name}
use Rattle.text_pieces.specs.Strings.{quoted}
use Rattle.flow_steps.proofs.step_text.push_names.Given as goal

abbrev pub invariant-loop-place : goal.invariant-loop-place
invariant-loop-place l =
    l.text.items ≡ l.fn.text.items ++ (codes "[" ++ joined (codes ",") (map (λ analysis. quoted (analysis_name analysis)) (take l.place l.analyses)))
