use Rattle.std.proofs.Common.{inl, inr, bit_or, arith}
use Rattle.std.proofs.lemmas.Nat.{le_or_l, or_lt}
use Rattle.std.proofs.lemmas.Bool.{cases_eq}
use Rattle.bit_rows.proofs.words.WordBits.{has_bit-or}
use Rattle.gk_solve.proofs.lanes.either_word.Goals as goal

pub returns-clause-bits : goal.returns-clause-bits
returns-clause-bits c k = has_bit-or c.args.first c.args.second k

pub returns-clause-grows : goal.returns-clause-grows
returns-clause-grows c = elim (cases_eq (bit_or c.args.first c.args.second) c.args.first) [
  | inl same ↦ inl same
  | inr other ↦ inr (omega (arith, le_or_l c.args.first c.args.second))
]

pub returns-clause-fits : goal.returns-clause-fits
returns-clause-fits c = or_lt 64 c.args.first c.args.second (omega arith) (omega arith)
