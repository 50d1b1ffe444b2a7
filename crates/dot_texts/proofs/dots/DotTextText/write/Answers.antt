use Rattle.text_pieces.proofs.sinks.Taking.{takes_as, takes_then}
use Rattle.dot_texts.proofs.dots.DotTextText.write.Goals as goal

pub returns : goal.returns
returns g c =
    takes_as _ _ _ _ (takes_then _ _ _ _ _ c.write_open_dot.ensures c.write.ensures) c.self.view_is
