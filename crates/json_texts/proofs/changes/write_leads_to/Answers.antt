use Rattle.std.proofs.Common.{ap, sym}
use Rattle.text_pieces.proofs.sinks.Taking.{takes_as, takes_then}
use Rattle.json_texts.specs.Changes.{leads_to_field}
use Rattle.json_texts.proofs.changes.write_leads_to.Goals as goal

pub returns-in-Some : goal.returns-in-Some
returns-in-Some g c = takes_as _ _ _ _ (takes_then _ _ _ _ _ c.write.ensures c.write_number.ensures) (sym (ap leads_to_field c.in-Some.is))

pub returns-in-None : goal.returns-in-None
returns-in-None g c = takes_as _ _ _ _ c.write-in-None.ensures (sym (ap leads_to_field c.in-None.is))
