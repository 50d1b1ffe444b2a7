use Rattle.std.proofs.Common.{ap, sym}
use Rattle.text_pieces.proofs.sinks.Taking.{takes_as}
use Rattle.flow_views.specs.Dots.{legend, text_if}
use Rattle.dot_texts.proofs.legend.write_legend.Goals as goal

pub returns : goal.returns
returns g c = takes_as _ _ _ _ c.write_both.ensures (sym (ap (λ is. text_if is (legend c.args.changes)) c.if-not-is_asked.false))
