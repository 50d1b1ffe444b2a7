use Rattle.text_pieces.proofs.sinks.Taking.{takes_then}
use Rattle.call_dots.proofs.marks.write_look.Goals as goal

pub returns : goal.returns
returns g c = takes_then _ _ _ _ _ c.write_if.ensures c.write_if-2.ensures
