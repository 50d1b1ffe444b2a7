use Rattle.page_texts.specs.Frame.{script_layout}
use Rattle.page_texts.proofs.script_layout.script_layout.Goals as goal

pub returns : goal.returns
unfolding script_layout
returns c = c.as_bytes.ensures.value
