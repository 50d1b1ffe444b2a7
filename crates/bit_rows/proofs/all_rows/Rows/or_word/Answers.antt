use Rattle.std.proofs.Common.{◌≡◌, ◌<◌, length, sym, subst, arith, rules}
use Rattle.std.proofs.lemmas.List.{get_or_read}
use Rattle.bit_rows.specs.RowSet.{RowSet, HasRange, hi_of, empty_set}
use Rattle.bit_rows.specs.RowTable.{RowTable, set_at}
use Rattle.bit_rows.proofs.sets.SetLaws.{HasRange-with_word}
use Rattle.bit_rows.proofs.sets.Tables.{IsUniform-replaced}
use Rattle.bit_rows.proofs.all_rows.Rows.or_word.Goals as goal

pub invariant_of-self : goal.invariant_of-self
invariant_of-self c =
    let r = c.self.inside in
    let t : RowTable = record { lo = r.lo; hi = r.hi; flags = r.flags.items; sets = r.rows.items } in
    let row : RowSet = c.index_mut-row.result.now in
    let point : c.args.point < length r.flags.items = search rules in
    let within : c.args.point < length r.rows.items = omega (arith, c.self.invariant.0.count) in
    let is_row : row ≡ set_at t c.args.point = get_or_read r.rows.items c.args.point row within c.index_mut-row.ensures.value (empty_set r.lo r.hi) in
    let range : HasRange c.or_word.new.self row.lo (hi_of row) =
    subst (λ (s : RowSet). HasRange s row.lo (hi_of row)) (sym c.or_word.ensures.value) (HasRange-with_word row c.args.word c.args.mask) in
    (IsUniform-replaced t c.args.point row c.or_word.new.self c.self.invariant.0 point is_row range, c.self.invariant.1)
