use Rattle.text_pieces.proofs.sinks.Taking.{takes_then}
use Rattle.block_dots.proofs.nodes.write_node.Goals as goal

pub returns : goal.returns
returns g c = takes_then _ _ _ _ _ (takes_then _ _ _ _ _ c.write.ensures c.write_number.ensures) c.write_body.ensures
