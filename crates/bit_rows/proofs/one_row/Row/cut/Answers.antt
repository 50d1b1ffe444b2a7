use Rattle.std.proofs.Common.{◌≡◌, ℕ, ◌+◌, ◌-◌, ◌*◌, ◌/◌, ◌≤◌, length, get_or, ap, ◌∙◌, arith}
use Rattle.std.specs.List.{refill, between}
use Rattle.std.proofs.lemmas.List.Edits.{length-between, get_or-between}
use Rattle.bit_rows.specs.RowSet.{contains, part_of}
use Rattle.bit_rows.specs.Words.{has_bit}
use Rattle.bit_rows.proofs.rows.WordRows.{HoldSet, HoldSet-lo, HoldSet-hi, HoldSet-bit, HoldSet-refill, HoldSet-trimmed}
use Rattle.bit_rows.proofs.one_row.Row.cut.Goals as goal

pub overflow_sub-first : goal.overflow_sub-first
overflow_sub-first c =
    let r = c.self.inside in
    let inside : HoldSet c.args.self.now r.lo r.hi r.words.items = record { well_formed = c.self.invariant; held = c.self.view_is } in
    omega (arith, c.requires.low, HoldSet-lo inside)

pub slice_bounds-from_slice-end : goal.slice_bounds-from_slice-end
slice_bounds-from_slice-end c =
    let r = c.self.inside in
    let inside : HoldSet c.args.self.now r.lo r.hi r.words.items = record { well_formed = c.self.invariant; held = c.self.view_is } in
    omega (arith, c.requires, HoldSet-lo inside, HoldSet-hi inside, ap length c.as_slice.ensures, c.self.invariant.count)

-- the words of the part, before its ends are cleared
part : (c : goal.After-words-3-1) → c.as_mut_slice.result.now
    ≡ between (c.args.lo / 64 - c.self.inside.lo / 64) (c.args.lo / 64 - c.self.inside.lo / 64 + c.words_needed.result) c.self.inside.words.items
part c =
    let first = c.args.lo / 64 - c.self.inside.lo / 64 in
    c.as_mut_slice.ensures.value ∙ c.in_ok-words.ensures.ok ∙ ap (between first (first + c.words_needed.result)) c.as_slice.ensures

held : (c : goal.After-words-3-1) → HoldSet (part_of c.args.self.now c.args.lo c.args.hi) c.args.lo c.args.hi
    (refill (length c.in_ok-words.words.items) c.in_ok-words.words.items c.trim.new.words)
unfolding part_of
held c =
    let r = c.self.inside in
    let s = c.args.self.now in
    let inside : HoldSet s r.lo r.hi r.words.items = record { well_formed = c.self.invariant; held = c.self.view_is } in
    let first : ℕ = c.args.lo / 64 - r.lo / 64 in
    let end : ℕ = first + c.words_needed.result in
    let start : r.lo ≤ c.args.lo = omega (arith, c.requires.low, HoldSet-lo inside) in
    let room : c.args.lo / 64 - r.lo / 64 + c.words_needed.result ≤ length r.words.items =
    omega (arith, c.words_needed.ensures, c.requires, HoldSet-lo inside, HoldSet-hi inside, c.self.invariant.count) in
    let count = c.trim.auto.words ∙ ap length (part c) ∙ length-between r.words.items first end room in
    HoldSet-refill c.in_ok-words.words.items c.trim.new.words
    (HoldSet-trimmed c.args.lo c.args.hi c.as_mut_slice.result.now c.trim.new.words (contains s) c.requires.ordered
    (omega (arith, count, c.words_needed.ensures)) c.trim.ensures
    (λ k i present within.
    let back : 64 * (r.lo / 64 + (c.args.lo / 64 - r.lo / 64 + k)) + i ≡ 64 * (c.args.lo / 64 + k) + i = omega arith in
    ap (λ xs. has_bit (get_or xs k 0) i) (part c)
    ∙ ap (λ word. has_bit word i) (get_or-between r.words.items first end k 0 (omega (arith, present, count)))
    ∙ HoldSet-bit inside (c.args.lo / 64 - r.lo / 64 + k) i within
    ∙ ap (contains s) back))
    (c.trim.auto.words ∙ ap length c.as_mut_slice.ensures.value)

pub invariant_of-result : goal.invariant_of-result
invariant_of-result c = (held c).well_formed

pub returns-clause-value : goal.returns-clause-value
returns-clause-value c = (held c).held
