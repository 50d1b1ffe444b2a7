use Rattle.gk_solve.proofs.words.EffectLemmas.{bit_before}
use Rattle.worklist.proofs.words.MarkLemmas.{set_same}
use Rattle.gk_solve.proofs.effects.with_bit.Goals as goal

pub returns-clause-here : goal.returns-clause-here
returns-clause-here c = set_same c.args.words c.args.word c.requires

pub returns-clause-others : goal.returns-clause-others
returns-clause-others c k had = bit_before c.args.words c.args.word k had
