use Rattle.std.proofs.Common.{sym, ◌∙◌, arith}
use Rattle.gk_solve.proofs.effects.touches.Goals as goal

pub overflow_cast-word : goal.overflow_cast-word
overflow_cast-word g c = let n = c.requires.frame.narrow in omega (arith, n, c.requires.word)

pub overflow_add-word : goal.overflow_add-word
overflow_add-word g c = let n = c.requires.frame.narrow in let f = c.requires.frame.first in omega (arith, n, f, c.requires.word)

pub returns : goal.returns
returns g c none = c.requires.frame.effects.idle c.args.point _ c.requires.within (sym c.has_word.ensures ∙ none)
