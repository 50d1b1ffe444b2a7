use Rattle.std.proofs.Common.{refl}
use Rattle.text_pieces.proofs.sinks.Taking.{takes_as, takes_then}
use Rattle.flow_parts.specs.Parts.{end_line}
use Rattle.flow_parts.proofs.parts.write_end.Goals as goal

pub returns : goal.returns
returns g c = takes_as _ _ _ (end_line c.args.share.part) (takes_then _ _ _ _ _ c.write_numbered.ensures c.write.ensures) refl
