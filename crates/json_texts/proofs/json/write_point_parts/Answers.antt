use Rattle.text_pieces.proofs.sinks.Taking.{takes_as}
use Rattle.std.proofs.Common.{ap}
use Rattle.json_texts.specs.code.Outlines.{point_fields}
use Rattle.json_texts.proofs.json.write_point_parts.Goals as goal

pub returns : goal.returns
returns g c =
    takes_as _ _ _ _ c.write_point_fields.ensures
    (ap (λ doubtful. point_fields c.args.shown.now.found.graph.now doubtful c.args.point) c.is_doubtful.ensures)
