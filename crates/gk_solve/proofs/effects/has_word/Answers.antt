use Rattle.std.proofs.Common.{ap, eqb}
use Rattle.bit_rows.specs.Words.{has_bit}
use Rattle.std.proofs.lemmas.Nat.Bits.{shr_and_one}
use Rattle.gk_solve.proofs.effects.has_word.Goals as goal

pub returns : goal.returns
unfolding has_bit
returns c = ap (λ x. eqb x 1) (shr_and_one c.args.words c.args.word)
