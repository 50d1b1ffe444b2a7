use Rattle.std.proofs.Common.{ap, sym}
use Rattle.text_pieces.proofs.sinks.Taking.{takes_as, takes_then}
use Rattle.flow_views.specs.Json.{when_field}
use Rattle.json_texts.proofs.outlines.write_when.Goals as goal

pub returns-in-Some : goal.returns-in-Some
returns-in-Some g c = takes_as _ _ _ _ (takes_then _ _ _ _ _ c.write.ensures c.write_boolean.ensures) (sym (ap when_field c.in-Some.is))
