use Rattle.std.proofs.Common.{List, ◌++◌, codes, map, ap}
use Rattle.text_pieces.proofs.sinks.Taking.{takes_as, takes_then}
use Rattle.flow_views.specs.Json.{array}
use Rattle.flow_why.specs.declared.hop.Hop.{Hop}
use Rattle.flow_paths.specs.Paths.{hop_object}
use Rattle.flow_paths.proofs.json_paths.PathLine.write_path.Goals as goal

pub returns : goal.returns
returns g c =
    takes_as _ _ _ _ (takes_then _ _ _ _ _ c.write.ensures c.write_hops.ensures)
    (ap (λ (hops : List Hop). codes ",\"path\":" ++ array (map hop_object hops)) c.hops.ensures)
