use Rattle.page_texts.specs.Frame.{script_keys}
use Rattle.page_texts.proofs.script_keys.script_keys.Goals as goal

pub returns : goal.returns
unfolding script_keys
returns c = c.as_bytes.ensures.value
