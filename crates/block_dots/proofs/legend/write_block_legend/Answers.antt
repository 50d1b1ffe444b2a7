use Rattle.text_pieces.proofs.sinks.Taking.{takes_then}
use Rattle.block_dots.proofs.legend.write_block_legend.Goals as goal

pub returns : goal.returns
returns g c =
    takes_then _ _ _ _ _ (takes_then _ _ _ _ _ (takes_then _ _ _ _ _ c.write_legend_begin.ensures c.write_legend_sets.ensures)
    c.write_legend_marks.ensures) c.write_legend_edges.ensures
