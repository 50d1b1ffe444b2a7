use Rattle.gk_solve.proofs.words.EffectLemmas.{idle_word}
use Rattle.gk_solve.proofs.effects.words_of_effect.Goals as goal

pub returns : goal.returns
returns c word clear = idle_word c.args.problem.now c.args.point c.effect_words.result word c.effect_words.ensures clear
