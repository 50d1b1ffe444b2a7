use Rattle.text_pieces.proofs.sinks.Taking.{takes_then}
use Rattle.source_lines.proofs.lined.SourcedTextText.write.Goals as goal

pub returns : goal.returns
returns g c = takes_then _ _ _ _ _ (takes_then _ _ _ _ _ c.write_first.ensures c.write_source.ensures) c.write_others.ensures
