use Rattle.text_pieces.proofs.sinks.Taking.{takes_then}
use Rattle.json_parts.proofs.objects.write_object.Goals as goal

pub returns : goal.returns
returns g c = takes_then _ _ _ _ _ c.write_chosen_head.ensures c.write.ensures
