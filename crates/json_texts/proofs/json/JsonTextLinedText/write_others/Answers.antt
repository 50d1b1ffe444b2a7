use Rattle.std.proofs.Common.{ap}
use Rattle.text_pieces.proofs.sinks.Taking.{takes_as, takes_then}
use Rattle.source_lines.specs.SourceLines.{Lined}
use Rattle.json_texts.proofs.json.JsonTextLinedText.write_others.Goals as goal

pub returns : goal.returns
returns g c =
    takes_as _ _ _ _ (takes_then _ _ _ _ _ c.write_sets.ensures c.write_end.ensures) (ap (λ (lined : Lined). lined.others) c.self.view_is)
