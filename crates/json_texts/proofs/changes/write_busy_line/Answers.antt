use Rattle.std.proofs.Common.{◌∙◌, sym}
use Rattle.flow_views.specs.code.ViewProgram.{known_of}
use Rattle.json_texts.proofs.told.BusyRemarks.{busy_line_is, no_busy_line}
use Rattle.text_pieces.proofs.sinks.Taking.{takes_as, takes_nothing}
use Rattle.json_texts.proofs.changes.write_busy_line.Goals as goal

pub returns-then-not-has_busy : goal.returns-then-not-has_busy
returns-then-not-has_busy g c =
    takes_as _ _ _ _ (takes_nothing _)
    (sym (no_busy_line c.args.shown.now.found.graph.now (known_of c.args.shown.now) c.args.point (sym c.has_busy.ensures ∙ c.if-not-has_busy.true)))

pub returns : goal.returns
returns g c =
    takes_as _ _ _ _ c.write_busy_object.ensures
    (busy_line_is c.args.shown.now.found.graph.now (known_of c.args.shown.now) c.args.point (sym c.has_busy.ensures ∙ c.if-not-has_busy.false))
