use Rattle.std.proofs.Common.{◌++◌, ap, ap₂}
use Rattle.text_pieces.proofs.sinks.Taking.{takes_as, takes_then}
use Rattle.refusal_texts.specs.RefusalTexts.{quoted_if}
use Rattle.refusal_texts.proofs.sentences.write_hint.Goals as goal

pub returns : goal.returns
returns g c =
    takes_as _ _ _ _ (takes_then _ _ _ _ _ (takes_then _ _ _ _ _ c.write_bytes.ensures c.write.ensures) c.write_ending.ensures)
    (ap₂ (λ a b. a ++ b) (ap₂ (λ a b. a ++ b) (ap (quoted_if c.args.text.now) c.bytes_of.ensures) c.words_of.ensures) c.ending_of.ensures)
