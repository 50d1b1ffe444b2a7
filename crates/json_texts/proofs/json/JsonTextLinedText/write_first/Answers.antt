use Rattle.std.proofs.Common.{ap}
use Rattle.text_pieces.proofs.sinks.Taking.{takes_as}
use Rattle.source_lines.specs.SourceLines.{Lined}
use Rattle.json_texts.proofs.json.JsonTextLinedText.write_first.Goals as goal

pub returns : goal.returns
returns g c = takes_as _ _ _ _ c.write_program.ensures (ap (λ (lined : Lined). lined.first) c.self.view_is)
