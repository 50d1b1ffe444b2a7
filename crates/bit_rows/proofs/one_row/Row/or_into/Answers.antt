use Rattle.std.proofs.Common.{◌≡◌, ℕ, List, length, sym, ap, ◌∙◌, subst}
use Rattle.std.specs.List.{refill}
use Rattle.bit_rows.specs.RowSet.{RowSet, union}
use Rattle.bit_rows.proofs.rows.WordRows.{HoldSet, HoldSet-alike, HoldSet-refill, HoldSet-union, same_places, MatchBool-map}
use Rattle.bit_rows.proofs.one_row.Row.or_into.Goals as goal

-- the row as it was, and the other one, of the same range and as many words
both : (c : goal.After-self-1) → HoldSet c.args.self.now c.self.inside.lo c.self.inside.hi c.as_mut_slice-ours.result.now
    × HoldSet c.args.other.now c.self.inside.lo c.self.inside.hi c.as_slice-theirs.result.now
    × (length c.as_mut_slice-ours.result.now ≡ length c.as_slice-theirs.result.now)
both c =
    let r = c.self.inside in
    let o = c.other.inside in
    let ours : HoldSet c.args.self.now r.lo r.hi r.words.items = record { well_formed = c.self.invariant; held = c.self.view_is } in
    let theirs : HoldSet c.args.other.now o.lo o.hi o.words.items = record { well_formed = c.other.invariant; held = c.other.view_is } in
    HoldSet-alike ours theirs c.requires c.as_mut_slice-ours.ensures.value c.as_slice-theirs.ensures

-- the words as the call left them
written : (c : goal.After-self-1) → HoldSet (union c.args.self.now c.args.other.now) c.self.inside.lo c.self.inside.hi c.or_words.new.target
written c =
    let r = c.self.inside in
    HoldSet-union c.args.self.now c.args.other.now r.lo r.hi c.as_mut_slice-ours.result.now c.as_slice-theirs.result.now c.or_words.new.target
    (both c).0 (both c).1 c.or_words.auto.target c.or_words.ensures.places

held : (c : goal.After-self-1) → HoldSet (union c.args.self.now c.args.other.now) c.self.inside.lo c.self.inside.hi
    (refill (length c.self.inside.words.items) c.self.inside.words.items c.or_words.new.target)
held c =
    HoldSet-refill c.self.inside.words.items c.or_words.new.target (written c) (c.or_words.auto.target ∙ ap length c.as_mut_slice-ours.ensures.value)

pub or_words-requires : goal.or_words-requires
or_words-requires c =
    let r = c.self.inside in
    let o = c.other.inside in
    let ours : HoldSet c.args.self.now r.lo r.hi r.words.items = record { well_formed = c.self.invariant; held = c.self.view_is } in
    let theirs : HoldSet c.args.other.now o.lo o.hi o.words.items = record { well_formed = c.other.invariant; held = c.other.view_is } in
    (HoldSet-alike ours theirs c.requires c.as_mut_slice-ours.ensures.value c.as_slice-theirs.ensures).2

pub invariant_of-self : goal.invariant_of-self
invariant_of-self c = (held c).well_formed

pub returns-clause-value : goal.returns-clause-value
returns-clause-value c = (held c).held

pub returns-clause-changed : goal.returns-clause-changed
returns-clause-changed c =
    let r = c.self.inside in
    let s = c.args.self.now in
    let before = c.as_mut_slice-ours.result.now in
    let after = c.or_words.new.target in
    let same = c.or_words.auto.target ∙ ap length c.as_mut_slice-ours.ensures.value in
    MatchBool-map c.or_words.result
    (λ differs equal.
    let there : HoldSet s r.lo r.hi after = subst (λ (t : RowSet). HoldSet t r.lo r.hi after) (sym (held c).held ∙ equal) (written c) in
    differs (same_places (both c).0 there))
    (λ kept.
    let there : HoldSet s r.lo r.hi after = subst (λ (xs : List ℕ). HoldSet s r.lo r.hi xs) (sym kept) (both c).0 in
    (HoldSet-refill r.words.items after there same).held)
    c.or_words.ensures.changed
