use Rattle.std.proofs.Common.{◌≡◌, length, ap, ap₂, arith}
use Rattle.std.proofs.lemmas.Bool.{false≢true}
use Rattle.bit_rows.specs.Words.{word_count}
use Rattle.bit_rows.specs.RowSet.{hi_of}
use Rattle.bit_rows.proofs.rows.WordRows.{HoldSet, HoldSet-lo, HoldSet-hi}
use Rattle.bit_rows.proofs.one_row.Row.copy.Goals as goal

pub returns-in_err-words-clause-small : goal.returns-in_err-words-clause-small
returns-in_err-words-clause-small c = λ small.
    let r = c.self.inside in
    let inside : HoldSet c.args.self.now r.lo r.hi r.words.items = record { well_formed = c.self.invariant; held = c.self.view_is } in
    let count : word_count c.args.self.now.lo (hi_of c.args.self.now) ≡ word_count r.lo r.hi =
    ap₂ word_count (HoldSet-lo inside) (HoldSet-hi inside) in
    absurd (false≢true (c.in_err-words.ensures.succeeds (omega (arith, small, count, c.self.invariant.count, ap length c.as_slice.ensures))))
