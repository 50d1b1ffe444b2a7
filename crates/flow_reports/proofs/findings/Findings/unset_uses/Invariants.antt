use Rattle.std.proofs.Common.{◌≡◌, ◌-◌, ◌*◌, ◌≤◌, length}
use Rattle.flow_reports.specs.Uses.{unset_uses}
use Rattle.flow_reports.specs.code.Findings.{knowledge_of}
use Rattle.flow_reports.proofs.findings.Findings.unset_uses.Given as goal

abbrev pub invariant-loop-point : goal.invariant-loop-point
invariant-loop-point l =
    (l.uses.items ≡ unset_uses l.self.graph.now (knowledge_of l.self) l.initial.point (l.point - l.initial.point))
    × (length l.uses.items ≤ 2 * (l.point - l.initial.point))
