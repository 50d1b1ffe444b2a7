use Rattle.std.proofs.Common.{◌||◌, ap₂, ◌∙◌}
use Rattle.bit_rows.proofs.words.WordBits.{has_bit-or}
use Rattle.gen_kill.proofs.words.own_word.Goals as goal

pub returns : goal.returns
returns c k within = has_bit-or c.mark_word.result c.mark_word-2.result k ∙ ap₂ ◌||◌ (c.mark_word.ensures k within) (c.mark_word-2.ensures k within)
