use Rattle.flow_team.specs.Tables.{facts_of}
use Rattle.std.proofs.Common.{◌≡◌, ◌/◌, ◌+◌, ◌*◌, ◌%◌, eqb, ap, ◌∙◌, arith}
use Rattle.std.proofs.lemmas.Nat.Bits.{shr_and_one}
use Rattle.bit_rows.specs.Words.{has_bit}
use Rattle.flow_team.proofs.table.Table.contains.Goals as goal

pub returns : goal.returns
unfolding has_bit
returns c =
    let back : 64 * (c.args.bit / 64) + c.args.bit % 64 ≡ c.args.bit = omega arith in
    ap (λ x. eqb x 1) (shr_and_one c.word.result (c.args.bit % 64))
    ∙ c.word.ensures.set (c.args.bit % 64) (omega arith)
    ∙ ap ((facts_of c.args.self.now).contains c.args.point) back
