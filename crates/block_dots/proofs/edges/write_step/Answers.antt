use Rattle.text_pieces.proofs.sinks.Taking.{takes_then}
use Rattle.block_dots.proofs.edges.write_step.Goals as goal

pub returns : goal.returns
returns g c = takes_then _ _ _ _ _ (takes_then _ _ _ _ _ c.write_arrow.ensures c.write_outcome.ensures) c.write.ensures
