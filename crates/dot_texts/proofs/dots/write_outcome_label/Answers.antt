use Rattle.std.proofs.Common.{ap, sym}
use Rattle.text_pieces.proofs.sinks.Taking.{takes_as}
use Rattle.flow_views.specs.Dots.{outcome_label}
use Rattle.dot_texts.proofs.dots.write_outcome_label.Goals as goal

pub returns-then-holds : goal.returns-then-holds
returns-then-holds g c = takes_as _ _ _ _ c.write.ensures (sym (ap outcome_label c.if-holds.true))

pub returns-else-holds : goal.returns-else-holds
returns-else-holds g c = takes_as _ _ _ _ c.write-else-holds.ensures (sym (ap outcome_label c.if-holds.false))
