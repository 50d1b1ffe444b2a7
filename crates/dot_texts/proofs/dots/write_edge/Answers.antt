use Rattle.std.proofs.Common.{sym, ap}
use Rattle.text_pieces.proofs.sinks.Taking.{takes_as}
use Rattle.flow_views.specs.Dots.{edge_line}
use Rattle.dot_texts.proofs.dots.write_edge.Goals as goal

pub returns-in-Step : goal.returns-in-Step
returns-in-Step g c = takes_as _ _ _ _ c.write_step.ensures (sym (ap (edge_line c.args.shown.now.found.graph.now) c.in-Step.is))

pub returns-in-Call : goal.returns-in-Call
returns-in-Call g c = takes_as _ _ _ _ c.write_passage.ensures (sym (ap (edge_line c.args.shown.now.found.graph.now) c.in-Call.is))

pub returns-in-Ret : goal.returns-in-Ret
returns-in-Ret g c = takes_as _ _ _ _ c.write_passage-in-Ret.ensures (sym (ap (edge_line c.args.shown.now.found.graph.now) c.in-Ret.is))
