use Rattle.std.proofs.Common.{ap, sym}
use Rattle.text_pieces.proofs.sinks.Taking.{takes_as}
use Rattle.flow_views.specs.Dots.{text_if}
use Rattle.call_dots.specs.CallDots.{legend}
use Rattle.call_dots.proofs.legend.write_legend.Goals as goal

pub returns : goal.returns
returns g c = takes_as _ _ _ _ c.write.ensures (sym (ap (λ is. text_if is legend) c.if-not-is_asked.false))
