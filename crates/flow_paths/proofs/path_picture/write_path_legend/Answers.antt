use Rattle.std.proofs.Common.{sym, ap}
use Rattle.text_pieces.proofs.sinks.Taking.{takes_as}
use Rattle.flow_paths.specs.Pictures.{path_legend}
use Rattle.flow_paths.proofs.path_picture.write_path_legend.Goals as goal

pub returns : goal.returns
returns g c = takes_as _ _ _ _ c.write.ensures (sym (ap path_legend c.if-not-is_asked.false))
