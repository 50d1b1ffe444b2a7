use Rattle.std.proofs.Common.{◌≡◌, map}
use Rattle.std.specs.List.{range_with_len}
use Rattle.flow_reports.specs.code.Findings.{knowledge_of}
use Rattle.flow_lints.proofs.doubt.reached_points.Given as goal

abbrev pub invariant-loop-point : goal.invariant-loop-point
invariant-loop-point l = l.reached.items ≡ map (knowledge_of l.found).reach.has_path (range_with_len 0 l.point)
