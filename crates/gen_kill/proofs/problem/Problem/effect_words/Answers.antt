use Rattle.gen_kill.proofs.bits.EffectWords.{affected_word}
use Rattle.gen_kill.proofs.problem.Problem.effect_words.Goals as goal

pub returns : goal.returns
returns c column below affected =
    affected_word c.args.self.now c.args.point column c.effect-effect.result c.word_mark.result c.word_mark-2.result c.touched_words.result
    c.effect-effect.ensures below c.word_mark.ensures c.word_mark-2.ensures (c.touched_words.ensures column below) affected
