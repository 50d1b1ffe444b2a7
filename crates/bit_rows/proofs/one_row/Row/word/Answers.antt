use Rattle.std.proofs.Common.{◌≡◌, ◌+◌, ◌-◌, ◌*◌, ◌/◌, ◌≤◌, length, get_or, sym, ap, ◌∙◌, arith}
use Rattle.std.proofs.lemmas.List.{get_or_past}
use Rattle.bit_rows.specs.RowSet.{contains}
use Rattle.bit_rows.specs.Words.{has_bit}
use Rattle.bit_rows.proofs.words.WordBits.{has_bit-zero}
use Rattle.bit_rows.proofs.sets.RowSets.{contains-below}
use Rattle.bit_rows.proofs.rows.WordRows.{HoldSet, HoldSet-lo, HoldSet-bit}
use Rattle.bit_rows.proofs.one_row.Row.word.Goals as goal

pub returns-then-w-first : goal.returns-then-w-first
returns-then-w-first c i within =
    let r = c.self.inside in
    let inside : HoldSet c.args.self.now r.lo r.hi r.words.items = record { well_formed = c.self.invariant; held = c.self.view_is } in
    has_bit-zero i ∙ sym (contains-below c.args.self.now (64 * c.args.w + i) (omega (arith, HoldSet-lo inside)))

pub returns-then-at-words : goal.returns-then-at-words
returns-then-at-words c i within =
    let r = c.self.inside in
    let inside : HoldSet c.args.self.now r.lo r.hi r.words.items = record { well_formed = c.self.invariant; held = c.self.view_is } in
    let back : 64 * (r.lo / 64 + (c.args.w - r.lo / 64)) + i ≡ 64 * c.args.w + i = omega arith in
    ap (λ xs. has_bit (get_or xs (c.args.w - r.lo / 64) 0) i) c.as_slice-words.ensures
    ∙ HoldSet-bit inside (c.args.w - r.lo / 64) i within
    ∙ ap (contains c.args.self.now) back

pub returns-else-at-words : goal.returns-else-at-words
returns-else-at-words c i within =
    let r = c.self.inside in
    let inside : HoldSet c.args.self.now r.lo r.hi r.words.items = record { well_formed = c.self.invariant; held = c.self.view_is } in
    let back : 64 * (r.lo / 64 + (c.args.w - r.lo / 64)) + i ≡ 64 * c.args.w + i = omega arith in
    let past : length r.words.items ≤ c.args.w - r.lo / 64 = omega (arith, ap length c.as_slice-words.ensures) in
    ap (λ word. has_bit word i) (sym (get_or_past r.words.items (c.args.w - r.lo / 64) 0 past))
    ∙ HoldSet-bit inside (c.args.w - r.lo / 64) i within
    ∙ ap (contains c.args.self.now) back
