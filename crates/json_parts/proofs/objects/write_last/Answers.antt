use Rattle.std.proofs.Common.{refl}
use Rattle.text_pieces.proofs.sinks.Taking.{takes_as, takes_then}
use Rattle.json_parts.specs.JsonParts.{last_object}
use Rattle.json_parts.proofs.objects.write_last.Goals as goal

pub returns : goal.returns
returns g c = takes_as _ _ _ (last_object c.args.share.part) (takes_then _ _ _ _ _ c.write_numbered.ensures c.write.ensures) refl
