use Rattle.text_pieces.proofs.sinks.Taking.{takes_then}
use Rattle.json_texts.proofs.json.JsonLineRemarkForm.write_remark.Goals as goal

pub returns : goal.returns
returns g c = takes_then _ _ _ _ _ c.write_remark_head.ensures c.write.ensures
