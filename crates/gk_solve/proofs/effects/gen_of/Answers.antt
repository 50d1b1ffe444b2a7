use Rattle.std.proofs.Common.{sym, ◌∙◌, ◌+◌}
use Rattle.bit_rows.proofs.words.WordBits.{has_bit-zero}
use Rattle.gk_solve.proofs.words.EffectLemmas.{gens_of_word}
use Rattle.gk_solve.proofs.effects.gen_of.Goals as goal

pub returns-then-touches : goal.returns-then-touches
returns-then-touches g c k low =
    gens_of_word c.args.frame.now.problem.now c.args.point (c.args.frame.now.first + c.args.w) c.gen_word.result k low c.gen_word.ensures

pub returns : goal.returns
returns g c k low = has_bit-zero k ∙ sym (c.touches.ensures c.if-touches.false k low).0
