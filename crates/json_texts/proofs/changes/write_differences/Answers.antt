use Rattle.text_pieces.proofs.sinks.Taking.{takes_then}
use Rattle.json_texts.proofs.changes.write_differences.Goals as goal

pub returns : goal.returns
returns g c = takes_then _ _ _ _ _ c.write_all_points.ensures c.write_all_points-2.ensures
