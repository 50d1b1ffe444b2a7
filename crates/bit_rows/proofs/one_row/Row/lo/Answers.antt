use Rattle.bit_rows.proofs.rows.WordRows.{HoldSet, HoldSet-lo}
use Rattle.std.proofs.Common.{sym}
use Rattle.bit_rows.proofs.one_row.Row.lo.Goals as goal

pub returns : goal.returns
returns c =
    let r = c.self.inside in
    let h : HoldSet c.args.self.now r.lo r.hi r.words.items = record { well_formed = c.self.invariant; held = c.self.view_is } in
    sym (HoldSet-lo h)
