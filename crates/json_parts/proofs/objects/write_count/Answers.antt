use Rattle.std.proofs.Common.{◌++◌, codes, decimal, ap}
use Rattle.text_pieces.proofs.sinks.Taking.{takes_as, takes_then}
use Rattle.json_parts.proofs.objects.write_count.Goals as goal

pub returns : goal.returns
returns g c =
    takes_as _ _ _ _ (takes_then _ _ _ _ _ c.write_numbered.ensures c.write.ensures)
    (ap (λ n. codes "{\"type\":\"end\",\"points\":" ++ decimal n ++ codes "}\n") c.points.ensures.count)
