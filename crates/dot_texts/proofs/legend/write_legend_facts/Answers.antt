use Rattle.std.proofs.Common.{ap, sym}
use Rattle.text_pieces.proofs.sinks.Taking.{takes_as}
use Rattle.flow_views.specs.Dots.{legend_facts}
use Rattle.dot_texts.proofs.legend.write_legend_facts.Goals as goal

pub returns-then-changes : goal.returns-then-changes
returns-then-changes g c = takes_as _ _ _ _ c.write.ensures (sym (ap legend_facts c.if-changes.true))

pub returns-else-changes : goal.returns-else-changes
returns-else-changes g c = takes_as _ _ _ _ c.write-else-changes.ensures (sym (ap legend_facts c.if-changes.false))
