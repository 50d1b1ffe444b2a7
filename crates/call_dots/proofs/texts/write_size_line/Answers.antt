use Rattle.std.proofs.Common.{◌++◌, codes, ap}
use Rattle.text_pieces.proofs.sinks.Taking.{takes_as, takes_then}
use Rattle.call_dots.specs.CallDots.{first_line, points_words}
use Rattle.call_dots.proofs.texts.write_size_line.Goals as goal

pub returns : goal.returns
returns g c =
    takes_as _ _ _ _ (takes_then _ _ _ _ _ (takes_then _ _ _ _ _ c.write_first_line.ensures c.write_points_words.ensures) c.write.ensures)
    (ap (λ n. first_line c.args.graph.now c.args.procedure ++ points_words n ++ codes "\\l") c.points_in.ensures)
