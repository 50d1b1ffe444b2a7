use Rattle.std.proofs.Common.{ap, sym}
use Rattle.flow_views.specs.Dots.{text_if}
use Rattle.text_pieces.proofs.sinks.Taking.{takes_as}
use Rattle.block_dots.specs.BlockDots.{block_legend}
use Rattle.block_dots.proofs.legend.write_legend_if.Goals as goal

pub returns : goal.returns
returns g c = takes_as _ _ _ _ c.write_block_legend.ensures (sym (ap (λ is. text_if is block_legend) c.if-not-is_asked.false))
