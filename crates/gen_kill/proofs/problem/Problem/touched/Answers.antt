use Rattle.gen_kill.proofs.bits.EffectWords.{affected_among}
use Rattle.gen_kill.proofs.problem.Problem.touched.Goals as goal

pub returns-clause-affected : goal.returns-clause-affected
returns-clause-affected c column below affected =
    affected_among c.args.self.now c.args.point column c.effect.result c.effect.ensures below affected

pub returns-clause-written : goal.returns-clause-written
returns-clause-written c = c.effect.ensures.within
