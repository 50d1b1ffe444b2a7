use Rattle.std.proofs.Common.{sym}
use Rattle.text_pieces.proofs.sinks.Taking.{takes_as}
use Rattle.flow_views.proofs.facts.Tables.{no_span}
use Rattle.json_texts.proofs.outlines.write_place.Goals as goal

pub returns-in-None : goal.returns-in-None
returns-in-None g c = takes_as _ _ _ _ c.write.ensures (sym (no_span c.args.graph.now c.args.point (sym c.in-None.ensures.stmt)))
