use Rattle.std.proofs.Common.{◌≡◌, ◌≢◌, ℕ, ◌+◌, ◌-◌, ◌*◌, ◌/◌, ◌^◌, ◌<◌, ◌≤◌, not, eqb, List, length, get_or, set, bit_or, sym, ap, ◌∙◌, subst, arith}
use Rattle.std.proofs.Common.{rules}
use Rattle.std.specs.List.{refill}
use Rattle.std.specs.Bool.{MatchBool}
use Rattle.std.proofs.lemmas.List.{length-set}
use Rattle.std.proofs.lemmas.Nat.{or_lt}
use Rattle.bit_rows.specs.RowSet.{RowSet, hi_of, with_word}
use Rattle.bit_rows.specs.Words.{MaskLiesWithin}
use Rattle.bit_rows.proofs.words.WordBits.{has_bit-some}
use Rattle.bit_rows.proofs.rows.WordRows.{HoldSet, HoldSet-lo, HoldSet-hi, HoldSet-refill, HoldSet-with_word, with_word-zero, changed_by_word}
use Rattle.bit_rows.proofs.one_row.Row.or_word.Goals as goal

-- a word with a place in the range is one of the row's words
word_in_row : (s : RowSet) (lo hi w mask : ℕ) (xs : List ℕ) → HoldSet s lo hi xs → MaskLiesWithin s.lo (hi_of s) w mask → (mask ≡ 0 → ⊥)
    → mask < 2 ^ 64 → (lo / 64 ≤ w) × (w - lo / 64 < length xs)
word_in_row s lo hi w mask xs h inside some fits =
    let place = has_bit-some mask (omega arith) fits in
    let bounds = inside place.0 place.1 place.2 in
    let low : lo ≤ 64 * w + place.0 = omega (arith, bounds, HoldSet-lo h) in
    let high : 64 * w + place.0 < hi = omega (arith, bounds, HoldSet-hi h) in
    let below : place.0 < 64 = place.1 in
    (omega arith, omega (arith, h.well_formed.count))

pub returns-then-mask-eq0-clause-value : goal.returns-then-mask-eq0-clause-value
returns-then-mask-eq0-clause-value c = sym (with_word-zero c.args.self.now c.args.w c.args.mask c.if-mask-eq0.true)

pub overflow_sub-at : goal.overflow_sub-at
overflow_sub-at c =
    let r = c.self.inside in
    let inside : HoldSet c.args.self.now r.lo r.hi r.words.items = record { well_formed = c.self.invariant; held = c.self.view_is } in
    (word_in_row c.args.self.now r.lo r.hi c.args.w c.args.mask r.words.items inside c.requires c.if-mask-eq0.false c.ranges.mask.fits).0

pub bounds-words-at : goal.bounds-words-at
bounds-words-at c =
    let r = c.self.inside in
    let inside : HoldSet c.args.self.now r.lo r.hi r.words.items = record { well_formed = c.self.invariant; held = c.self.view_is } in
    let row = word_in_row c.args.self.now r.lo r.hi c.args.w c.args.mask r.words.items inside c.requires c.if-mask-eq0.false c.ranges.mask.fits in
    omega (arith, row.1, ap length c.as_mut_slice-words.ensures.value)

pub bounds-words-at-2 : goal.bounds-words-at-2
bounds-words-at-2 c =
    let r = c.self.inside in
    let inside : HoldSet c.args.self.now r.lo r.hi r.words.items = record { well_formed = c.self.invariant; held = c.self.view_is } in
    let row = word_in_row c.args.self.now r.lo r.hi c.args.w c.args.mask r.words.items inside c.requires c.if-mask-eq0.false c.ranges.mask.fits in
    omega (arith, row.1, ap length c.as_mut_slice-words.ensures.value)

written : (c : goal.After-self-1)
    → HoldSet (with_word c.args.self.now c.args.w c.args.mask) c.self.inside.lo c.self.inside.hi (set c.as_mut_slice-words.result.now
    (c.args.w - c.self.inside.lo / 64) (bit_or (get_or c.as_mut_slice-words.result.now (c.args.w - c.self.inside.lo / 64) 0) c.args.mask))
written c =
    let r = c.self.inside in
    let s = c.args.self.now in
    let before = c.as_mut_slice-words.result.now in
    let inside : HoldSet s r.lo r.hi r.words.items = record { well_formed = c.self.invariant; held = c.self.view_is } in
    let ours : HoldSet s r.lo r.hi before = subst (λ (xs : List ℕ). HoldSet s r.lo r.hi xs) (sym c.as_mut_slice-words.ensures.value) inside in
    let row = word_in_row s r.lo r.hi c.args.w c.args.mask before ours c.requires c.if-mask-eq0.false c.ranges.mask.fits in
    HoldSet-with_word s r.lo r.hi before c.args.w c.args.mask ours c.requires row.0 row.1

held : (c : goal.After-self-1) → HoldSet (with_word c.args.self.now c.args.w c.args.mask) c.self.inside.lo c.self.inside.hi
    (refill (length c.self.inside.words.items) c.self.inside.words.items (set c.as_mut_slice-words.result.now (c.args.w - c.self.inside.lo / 64)
    (bit_or (get_or c.as_mut_slice-words.result.now (c.args.w - c.self.inside.lo / 64) 0) c.args.mask)))
held c =
    let r = c.self.inside in
    let before = c.as_mut_slice-words.result.now in
    let at : ℕ = c.args.w - r.lo / 64 in
    let word : ℕ = bit_or (get_or before at 0) c.args.mask in
    HoldSet-refill r.words.items (set before at word) (written c) (length-set before at word ∙ ap length c.as_mut_slice-words.ensures.value)

pub invariant_of-self : goal.invariant_of-self
invariant_of-self c = (held c).well_formed

pub returns-clause-value : goal.returns-clause-value
returns-clause-value c = (held c).held

pub returns-clause-changed : goal.returns-clause-changed
returns-clause-changed c =
    let r = c.self.inside in
    let s = c.args.self.now in
    let before = c.as_mut_slice-words.result.now in
    let at : ℕ = c.args.w - r.lo / 64 in
    let word : ℕ = bit_or (get_or before at 0) c.args.mask in
    let inside : HoldSet s r.lo r.hi r.words.items = record { well_formed = c.self.invariant; held = c.self.view_is } in
    let ours : HoldSet s r.lo r.hi before = subst (λ (xs : List ℕ). HoldSet s r.lo r.hi xs) (sym c.as_mut_slice-words.ensures.value) inside in
    let row = word_in_row s r.lo r.hi c.args.w c.args.mask before ours c.requires c.if-mask-eq0.false c.ranges.mask.fits in
    let old_fits : get_or before at 0 < 2 ^ 64 = search rules in
    let new_fits = or_lt 64 (get_or before at 0) c.args.mask old_fits c.ranges.mask.fits in
    subst (λ (t : RowSet). MatchBool (not (eqb word (get_or before at 0))) (t ≢ s) (t ≡ s)) (sym (held c).held)
    (changed_by_word s (with_word s c.args.w c.args.mask) r.lo r.hi before at word ours (written c) row.1 old_fits new_fits)
