use Rattle.text_pieces.proofs.sinks.Taking.{takes_then}
use Rattle.json_texts.proofs.outlines.write_point_fields.Goals as goal

pub returns : goal.returns
returns g c = takes_then _ _ _ _ _ (takes_then _ _ _ _ _ c.write_point_front.ensures c.write.ensures) c.write_edges_out.ensures
