use Rattle.text_pieces.proofs.sinks.Taking.{takes_then}
use Rattle.block_dots.proofs.picture.write_picture.Goals as goal

pub returns : goal.returns
returns g c =
    takes_then _ _ _ _ _ (takes_then _ _ _ _ _ (takes_then _ _ _ _ _ (takes_then _ _ _ _ _ c.write_head.ensures c.write_shown_clusters.ensures)
    c.write_all_points.ensures) c.write_legend_if.ensures) c.write.ensures
