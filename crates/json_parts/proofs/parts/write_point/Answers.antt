use Rattle.std.proofs.Common.{ap, ◌∙◌}
use Rattle.flow_reports.specs.code.Findings.{knowledge_of}
use Rattle.json_parts.proofs.PointLines.{line_is}
use Rattle.json_texts.specs.code.Outlines.{bare_point_line}
use Rattle.text_pieces.proofs.sinks.Taking.{takes_as}
use Rattle.json_parts.proofs.parts.write_point.Goals as goal

pub returns : goal.returns
returns g c =
    takes_as _ _ _ _ c.write_bare_point.ensures
    (ap (λ doubtful. bare_point_line c.args.found.now.graph.now doubtful c.args.point) c.is_doubtful.ensures
    ∙ line_is c.args.found.now.graph.now (knowledge_of c.args.found.now) c.args.point)
