use Rattle.page_texts.specs.Frame.{script_rows}
use Rattle.page_texts.proofs.script_rows.script_rows.Goals as goal

pub returns : goal.returns
unfolding script_rows
returns c = c.as_bytes.ensures.value
