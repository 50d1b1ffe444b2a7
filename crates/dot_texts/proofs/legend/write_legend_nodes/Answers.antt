use Rattle.text_pieces.proofs.sinks.Taking.{takes_then}
use Rattle.dot_texts.proofs.legend.write_legend_nodes.Goals as goal

pub returns : goal.returns
returns g c = takes_then _ _ _ _ _ (takes_then _ _ _ _ _ c.write_legend_begin.ensures c.write_legend_facts.ensures) c.write_legend_marks.ensures
