use Rattle.std.proofs.Common.{ap, sym}
use Rattle.text_pieces.proofs.sinks.Taking.{takes_as}
use Rattle.flow_paths.specs.Paths.{hop_object}
use Rattle.flow_paths.proofs.hop_objects.write_hop.Goals as goal

pub returns-in-Step : goal.returns-in-Step
returns-in-Step g c = takes_as _ _ _ _ c.write_step.ensures (sym (ap hop_object c.in-Step.is))

pub returns-in-Enter : goal.returns-in-Enter
returns-in-Enter g c = takes_as _ _ _ _ c.write_enter.ensures (sym (ap hop_object c.in-Enter.is))

pub returns-in-Pass : goal.returns-in-Pass
returns-in-Pass g c = takes_as _ _ _ _ c.write_pass.ensures (sym (ap hop_object c.in-Pass.is))
