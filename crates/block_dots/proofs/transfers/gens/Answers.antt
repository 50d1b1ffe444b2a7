use Rattle.std.proofs.Common.{◌∙◌, sym, ap}
use Rattle.flow_graph.specs.Transfers.{gens}
use Rattle.flow_graph.specs.declared.analysis.Analysis.{Analysis}
use Rattle.gen_kill.proofs.bits.OwnBits.{expression_is_own}
use Rattle.block_dots.proofs.transfers.gens.Goals as goal

pub returns-in-Busy : goal.returns-in-Busy
returns-in-Busy c =
    c.evaluates.ensures ∙ expression_is_own c.args.graph.now c.args.point c.args.bit
    ∙ sym (ap (λ (a : Analysis). gens c.args.graph.now a c.args.point c.args.bit) c.in-Busy.is)
