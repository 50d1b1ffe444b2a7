use Rattle.page_texts.specs.Frame.{script_steps}
use Rattle.page_texts.proofs.script_steps.script_steps.Goals as goal

pub returns : goal.returns
unfolding script_steps
returns c = c.as_bytes.ensures.value
