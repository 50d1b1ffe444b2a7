use Rattle.std.proofs.Common.{◌-◌, ◌++◌, codes, decimal, ap₂}
use Rattle.text_pieces.proofs.sinks.Taking.{takes_as, takes_then}
use Rattle.json_texts.proofs.json.write_end.Goals as goal

pub returns : goal.returns
returns g c =
    takes_as _ _ _ _ (takes_then _ _ _ _ _ (takes_then _ _ _ _ _ c.write.ensures c.write_number.ensures) c.write-2.ensures)
    (ap₂ (λ end first. codes "{\"type\":\"end\",\"points\":" ++ decimal (end - first) ++ codes "}\n") c.shown_points-points.ensures.end
    c.shown_points-points.ensures.first)
