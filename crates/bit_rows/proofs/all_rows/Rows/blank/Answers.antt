use Rattle.std.proofs.Common.{◌≡◌, List, length, replicate, sym, ap, ◌∙◌, subst, arith}
use Rattle.bit_rows.specs.RowSet.{RowSet, empty_set}
use Rattle.bit_rows.specs.RowTable.{RowTable, IsUniform}
use Rattle.bit_rows.proofs.sets.Tables.{IsUniform-blank_table}
use Rattle.bit_rows.proofs.all_rows.Rows.blank.Goals as goal

pub invariant_of-result : goal.invariant_of-result
invariant_of-result c =
    let a = c.args in
    let count : c.loop.counter ≡ length a.flags.items = omega (arith, a.flags.ok.0) in
    let rows : c.loop.rows.items ≡ replicate (length a.flags.items) (empty_set a.lo a.hi) =
    c.loop.invariant ∙ ap (λ n. replicate n (empty_set a.lo a.hi)) count in
    let make : List RowSet → RowTable = λ sets. record { lo = a.lo; hi = a.hi; flags = a.flags.items; sets = sets } in (
      subst IsUniform (sym (ap make rows)) (IsUniform-blank_table a.flags.items a.lo a.hi c.requires.ordered),
      omega (arith, a.flags.ok.0, c.requires.points),
    )
