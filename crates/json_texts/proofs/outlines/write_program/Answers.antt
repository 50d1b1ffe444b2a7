use Rattle.text_pieces.proofs.sinks.Taking.{takes_then}
use Rattle.json_texts.proofs.outlines.write_program.Goals as goal

pub returns : goal.returns
returns g c = takes_then _ _ _ _ _ c.write_program_head.ensures c.write.ensures
