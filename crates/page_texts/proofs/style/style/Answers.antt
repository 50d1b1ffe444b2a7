use Rattle.page_texts.specs.Frame.{style}
use Rattle.page_texts.proofs.style.style.Goals as goal

pub returns : goal.returns
unfolding style
returns c = c.as_bytes.ensures.value
