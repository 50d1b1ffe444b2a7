use Rattle.std.proofs.Common.{◌++◌, codes, decimal, ap}
use Rattle.text_pieces.proofs.sinks.Taking.{takes_as, takes_then}
use Rattle.flow_views.specs.Json.{when_field}
use Rattle.json_texts.proofs.outlines.write_step_object.Goals as goal

pub returns : goal.returns
returns g c =
    takes_as _ _ _ _
    (takes_then _ _ _ _ _ (takes_then _ _ _ _ _ (takes_then _ _ _ _ _ c.write.ensures c.write_number.ensures) c.write_when.ensures) c.write-2.ensures)
    (ap (λ o. codes "{\"kind\":\"step\",\"to\":" ++ decimal c.args.target ++ when_field o ++ codes "}") c.outcome_by-outcome.ensures)
