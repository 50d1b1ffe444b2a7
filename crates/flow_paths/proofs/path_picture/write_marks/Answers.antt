use Rattle.text_pieces.proofs.sinks.Taking.{takes_then}
use Rattle.flow_paths.proofs.path_picture.write_marks.Goals as goal

pub returns : goal.returns
returns g c = takes_then _ _ _ _ _ c.write_point_mark.ensures c.write_arrow_mark.ensures
