use Rattle.text_pieces.proofs.sinks.Taking.{takes_then}
use Rattle.dot_texts.proofs.dots.DotNodesPointForm.write_point.Goals as goal

pub returns : goal.returns
returns g c =
    takes_then _ _ _ _ _ (takes_then _ _ _ _ _ c.write.ensures c.write_number.ensures) c.write_node.ensures
