use Rattle.std.proofs.Common.{◌++◌, ap}
use Rattle.text_pieces.proofs.sinks.Taking.{takes_as, takes_then}
use Rattle.flow_views.specs.Dots.{across, arrow}
use Rattle.dot_texts.proofs.dots.write_passage.Goals as goal

pub returns : goal.returns
returns g c =
    takes_as _ _ _ _ (takes_then _ _ _ _ _ c.write_arrow.ensures c.write_across.ensures)
    (ap (λ n. arrow c.args.source c.args.target ++ across c.args.word.now n) c.line.ensures)
