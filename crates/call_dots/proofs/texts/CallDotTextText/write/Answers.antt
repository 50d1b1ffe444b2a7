use Rattle.text_pieces.proofs.sinks.Taking.{takes_as}
use Rattle.call_dots.proofs.texts.CallDotTextText.write.Goals as goal

pub returns : goal.returns
returns g c = takes_as _ _ _ _ c.write_picture.ensures c.self.view_is
