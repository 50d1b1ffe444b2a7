use Rattle.std.proofs.Common.{◌∙◌, sym}
use Rattle.text_pieces.proofs.sinks.Taking.{takes_as, takes_then}
use Rattle.flow_views.proofs.facts.Tables.{passed_is}
use Rattle.dot_texts.proofs.dots.write_passed_call.Goals as goal

pub returns : goal.returns
returns g c =
    takes_as _ _ _ _ (takes_then _ _ _ _ _ c.write_arrow.ensures c.write.ensures)
    (passed_is c.args.shown.now.found.graph.now c.args.point (sym c.calls_at.ensures ∙ c.if-not-calls_at.false))
