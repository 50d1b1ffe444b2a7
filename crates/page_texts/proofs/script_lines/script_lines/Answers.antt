use Rattle.page_texts.specs.Frame.{script_lines}
use Rattle.page_texts.proofs.script_lines.script_lines.Goals as goal

pub returns : goal.returns
unfolding script_lines
returns c = c.as_bytes.ensures.value
