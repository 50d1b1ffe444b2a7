use Rattle.page_texts.specs.Frame.{script_panes}
use Rattle.page_texts.proofs.script_panes.script_panes.Goals as goal

pub returns : goal.returns
unfolding script_panes
returns c = c.as_bytes.ensures.value
