use Rattle.std.proofs.Common.{Option, ℕ, ap}
use Rattle.text_pieces.proofs.sinks.Taking.{takes_as, takes_then}
use Rattle.flow_views.specs.code.ViewProgram.{known_of}
use Rattle.json_texts.specs.Changes.{doubted_parts}
use Rattle.json_texts.proofs.changes.ChangedPointsPointForm.write_point.Goals as goal

pub returns : goal.returns
returns g c =
    takes_then _ _ _ _ _ (takes_then _ _ _ _ _ (takes_then _ _ _ _ _ (takes_then _ _ _ _ _ (takes_then _ _ _ _ _
    c.write_point_place.ensures c.write_place.ensures)
    (takes_as _ _ _ _ c.write_doubted_parts.ensures
    (ap (λ (origin : Option ℕ). doubted_parts origin c.args.shown.now.found.graph.now (known_of c.args.shown.now) c.args.point) c.origin_at.ensures)))
    c.write_parts_fields.ensures) c.write_changes_fields.ensures) c.write.ensures
