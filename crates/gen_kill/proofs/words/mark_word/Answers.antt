use Rattle.std.proofs.Common.{◌+◌, ◌*◌, sym, ap, ◌∙◌}
use Rattle.bit_rows.proofs.words.WordBits.{has_bit-zero}
use Rattle.gen_kill.specs.code.Effects.{marks}
use Rattle.gen_kill.proofs.bits.SetWords.{word_of_bit, word_of_another}
use Rattle.gen_kill.proofs.words.mark_word.Goals as goal

pub returns-in-None : goal.returns-in-None
returns-in-None c k within = has_bit-zero k ∙ ap (λ m. marks m (64 * c.args.word + k)) (sym c.in-None.is)

pub returns-then-bit-word : goal.returns-then-bit-word
returns-then-bit-word c k within =
    word_of_bit c.in-Some.bit c.args.word k within c.if-bit-word.true ∙ ap (λ m. marks m (64 * c.args.word + k)) (sym c.in-Some.is)

pub returns-else-bit-word : goal.returns-else-bit-word
returns-else-bit-word c k within =
    word_of_another c.in-Some.bit c.args.word k within c.if-bit-word.false ∙ ap (λ m. marks m (64 * c.args.word + k)) (sym c.in-Some.is)
