use Rattle.std.proofs.Common.{Bool, [], ap, sym, ◌∙◌, if◌then◌else◌}
use Rattle.flow_views.specs.Json.{remark_object}
use Rattle.text_pieces.proofs.sinks.Taking.{takes_as}
use Rattle.json_parts.proofs.objects.PartObjectsChosenForm.write_remark.Goals as goal

pub returns : goal.returns
returns g c =
    takes_as _ _ _ _ c.write_object.ensures
    (sym (ap (λ (b : Bool). if b then remark_object c.args.found.now.graph.now c.args.point c.args.remark else [])
    (sym c.is_remark_of_part.ensures ∙ c.if-not-is_remark_of_part.false)))
