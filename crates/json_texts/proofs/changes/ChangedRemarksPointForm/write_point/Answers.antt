use Rattle.text_pieces.proofs.sinks.Taking.{takes_then}
use Rattle.json_texts.proofs.changes.ChangedRemarksPointForm.write_point.Goals as goal

pub returns : goal.returns
returns g c = takes_then _ _ _ _ _ c.write_remarks_at.ensures c.write_busy_line_if.ensures
