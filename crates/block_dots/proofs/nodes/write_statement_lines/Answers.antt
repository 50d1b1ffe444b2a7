use Rattle.text_pieces.proofs.sinks.Taking.{takes_then}
use Rattle.block_dots.proofs.nodes.write_statement_lines.Goals as goal

pub returns : goal.returns
returns g c = takes_then _ _ _ _ _ (takes_then _ _ _ _ _ c.write_title.ensures c.write.ensures) c.write_remarks_at.ensures
