use Rattle.std.proofs.Common.{◌-◌, ◌/◌, ◌%◌, eqb, length, get_or, ap, ◌∙◌, arith}
use Rattle.std.proofs.lemmas.Nat.Bits.{shr_and_one}
use Rattle.bit_rows.specs.Words.{has_bit}
use Rattle.bit_rows.proofs.rows.WordRows.{HoldSet, HoldSet-lo, HoldSet-hi, HoldSet-has}
use Rattle.bit_rows.proofs.one_row.Row.get.Goals as goal

pub overflow_sub-word : goal.overflow_sub-word
overflow_sub-word c =
    let r = c.self.inside in
    let h : HoldSet c.args.self.now r.lo r.hi r.words.items = record { well_formed = c.self.invariant; held = c.self.view_is } in
    omega (arith, c.requires.low, HoldSet-lo h)

pub bounds-as_slice-b : goal.bounds-as_slice-b
bounds-as_slice-b c =
    let r = c.self.inside in
    let h : HoldSet c.args.self.now r.lo r.hi r.words.items = record { well_formed = c.self.invariant; held = c.self.view_is } in
    omega (arith, c.requires, HoldSet-lo h, HoldSet-hi h, ap length c.as_slice.ensures, c.self.invariant.count)

pub returns : goal.returns
unfolding has_bit
returns c =
    let r = c.self.inside in
    let h : HoldSet c.args.self.now r.lo r.hi r.words.items = record { well_formed = c.self.invariant; held = c.self.view_is } in
    ap (λ x. eqb x 1) (shr_and_one _ (c.args.b % 64))
    ∙ ap (λ ws. has_bit (get_or ws (c.args.b / 64 - r.lo / 64) 0) (c.args.b % 64)) c.as_slice.ensures
    ∙ HoldSet-has h c.args.b c.requires.low c.requires.high
