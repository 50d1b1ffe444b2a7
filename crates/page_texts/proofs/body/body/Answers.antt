use Rattle.page_texts.specs.Frame.{body}
use Rattle.page_texts.proofs.body.body.Goals as goal

pub returns : goal.returns
unfolding body
returns c = c.as_bytes.ensures.value
