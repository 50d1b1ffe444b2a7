use Rattle.std.proofs.Common.{◌≡◌, ◌-◌, ◌<◌, map}
use Rattle.std.specs.Prelude.{All}
use Rattle.flow_graph.specs.Points.{point_count}
use Rattle.flow_reports.specs.code.Findings.{knowledge_of}
use Rattle.flow_paths.specs.Doubts.{HasOrigin, assignment_of, assignments_from}
use Rattle.flow_paths.specs.code.Doubted.{with_doubt}
use Rattle.flow_paths.proofs.doubts.doubts_of.Given as goal

abbrev pub invariant-loop-point : goal.invariant-loop-point
invariant-loop-point l =
    (map assignment_of l.doubts.items
    ≡ assignments_from l.reasons (with_doubt (knowledge_of l.sure) l.doubtful) l.initial.point (l.point - l.initial.point))
    × All (HasOrigin l.reasons) l.doubts.items
    × All (λ doubt. doubt.point < point_count l.reasons) l.doubts.items
