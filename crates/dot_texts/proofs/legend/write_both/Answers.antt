use Rattle.text_pieces.proofs.sinks.Taking.{takes_then}
use Rattle.dot_texts.proofs.legend.write_both.Goals as goal

pub returns : goal.returns
returns g c = takes_then _ _ _ _ _ c.write_legend_nodes.ensures c.write_legend_edges.ensures
