use Rattle.std.proofs.Common.{sym, ap}
use Rattle.text_pieces.proofs.sinks.Taking.{takes_as}
use Rattle.block_dots.specs.BlockDots.{block_edge}
use Rattle.block_dots.proofs.edges.write_edge.Goals as goal

pub returns-in-Step : goal.returns-in-Step
returns-in-Step g c = takes_as _ _ _ _ c.write_step.ensures (sym (ap (block_edge c.args.shown.now.found.graph.now c.args.leader) c.in-Step.is))

pub returns-in-Call : goal.returns-in-Call
returns-in-Call g c = takes_as _ _ _ _ c.write_passage.ensures (sym (ap (block_edge c.args.shown.now.found.graph.now c.args.leader) c.in-Call.is))

pub returns-in-Ret : goal.returns-in-Ret
returns-in-Ret g c = takes_as _ _ _ _ c.write_passage-in-Ret.ensures (sym
    (ap (block_edge c.args.shown.now.found.graph.now c.args.leader) c.in-Ret.is))
