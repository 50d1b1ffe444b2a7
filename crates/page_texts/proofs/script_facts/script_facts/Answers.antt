use Rattle.page_texts.specs.Frame.{script_facts}
use Rattle.page_texts.proofs.script_facts.script_facts.Goals as goal

pub returns : goal.returns
unfolding script_facts
returns c = c.as_bytes.ensures.value
