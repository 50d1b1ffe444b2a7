use Rattle.std.proofs.Common.{◌≡◌, ◌&&◌, map, not}
use Rattle.std.specs.List.{range_with_len}
use Rattle.flow_reports.specs.code.Findings.{knowledge_of}
use Rattle.flow_lints.proofs.doubt.endless_points.Given as goal

abbrev pub invariant-loop-point : goal.invariant-loop-point
invariant-loop-point l =
    l.endless.items
    ≡ map (λ point. (knowledge_of l.found).reach.has_path point && not ((knowledge_of l.found).live.has_path point)) (range_with_len 0 l.point)
