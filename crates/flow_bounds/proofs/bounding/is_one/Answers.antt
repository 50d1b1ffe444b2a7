use Rattle.std.proofs.Common.{eqb, ap}
use Rattle.std.proofs.lemmas.Nat.Bits.{shr_and_one}
use Rattle.bit_rows.specs.Words.{has_bit}
use Rattle.flow_bounds.proofs.bounding.is_one.Goals as goal

pub returns : goal.returns
unfolding has_bit
returns c = ap (λ x. eqb x 1) (shr_and_one c.args.word c.args.place)
