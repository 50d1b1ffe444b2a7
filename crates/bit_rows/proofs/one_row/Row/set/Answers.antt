use Rattle.std.proofs.Common.{ℕ, ◌-◌, ◌*◌, ◌/◌, ◌%◌, ◌^◌, List, length, get_or, set, bit_or, sym, ap, ◌∙◌, subst, arith}
use Rattle.std.specs.List.{refill}
use Rattle.std.proofs.lemmas.List.{length-set}
use Rattle.bit_rows.specs.RowSet.{with_bit}
use Rattle.bit_rows.proofs.rows.WordRows.{HoldSet, HoldSet-lo, HoldSet-hi, HoldSet-refill, HoldSet-with_bit}
use Rattle.bit_rows.proofs.one_row.Row.set.Goals as goal

pub overflow_sub-at : goal.overflow_sub-at
overflow_sub-at c =
    let r = c.self.inside in
    let inside : HoldSet c.args.self.now r.lo r.hi r.words.items = record { well_formed = c.self.invariant; held = c.self.view_is } in
    omega (arith, c.requires.low, HoldSet-lo inside)

pub bounds-as_mut_slice-at : goal.bounds-as_mut_slice-at
bounds-as_mut_slice-at c =
    let r = c.self.inside in
    let inside : HoldSet c.args.self.now r.lo r.hi r.words.items = record { well_formed = c.self.invariant; held = c.self.view_is } in
    omega (arith, c.requires, HoldSet-lo inside, HoldSet-hi inside, ap length c.as_mut_slice.ensures.value, c.self.invariant.count)

pub bounds-as_mut_slice-at-2 : goal.bounds-as_mut_slice-at-2
bounds-as_mut_slice-at-2 c =
    let r = c.self.inside in
    let inside : HoldSet c.args.self.now r.lo r.hi r.words.items = record { well_formed = c.self.invariant; held = c.self.view_is } in
    omega (arith, c.requires, HoldSet-lo inside, HoldSet-hi inside, ap length c.as_mut_slice.ensures.value, c.self.invariant.count)

held : (c : goal.After-self-1) → HoldSet (with_bit c.args.self.now c.args.b) c.self.inside.lo c.self.inside.hi
    (refill (length c.self.inside.words.items) c.self.inside.words.items (set c.as_mut_slice.result.now (c.args.b / 64 - c.self.inside.lo / 64)
    (bit_or (get_or c.as_mut_slice.result.now (c.args.b / 64 - c.self.inside.lo / 64) 0) (1 * 2 ^ (c.args.b % 64) % 2 ^ 64))))
held c =
    let r = c.self.inside in
    let s = c.args.self.now in
    let before = c.as_mut_slice.result.now in
    let at : ℕ = c.args.b / 64 - r.lo / 64 in
    let word : ℕ = bit_or (get_or before at 0) (1 * 2 ^ (c.args.b % 64) % 2 ^ 64) in
    let inside : HoldSet s r.lo r.hi r.words.items = record { well_formed = c.self.invariant; held = c.self.view_is } in
    let ours : HoldSet s r.lo r.hi before = subst (λ (xs : List ℕ). HoldSet s r.lo r.hi xs) (sym c.as_mut_slice.ensures.value) inside in
    HoldSet-refill r.words.items (set before at word) (HoldSet-with_bit s r.lo r.hi before c.args.b ours c.requires.low c.requires.high)
    (length-set before at word ∙ ap length c.as_mut_slice.ensures.value)

pub invariant_of-self : goal.invariant_of-self
invariant_of-self c = (held c).well_formed

pub returns : goal.returns
returns c = (held c).held
