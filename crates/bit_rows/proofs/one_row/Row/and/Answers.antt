use Rattle.std.proofs.Common.{◌≡◌, length, ap, ◌∙◌}
use Rattle.std.specs.List.{refill}
use Rattle.bit_rows.specs.RowSet.{intersection}
use Rattle.bit_rows.proofs.rows.WordRows.{HoldSet, HoldSet-alike, HoldSet-refill, HoldSet-intersection}
use Rattle.bit_rows.proofs.one_row.Row.and.Goals as goal

-- the row as it was, and the other one, of the same range and as many words
both : (c : goal.After-self-1) → HoldSet c.args.self.now c.self.inside.lo c.self.inside.hi c.as_mut_slice-ours.result.now
    × HoldSet c.args.other.now c.self.inside.lo c.self.inside.hi c.as_slice-theirs.result.now
    × (length c.as_mut_slice-ours.result.now ≡ length c.as_slice-theirs.result.now)
both c =
    let r = c.self.inside in
    let o = c.other.inside in
    let ours : HoldSet c.args.self.now r.lo r.hi r.words.items = record { well_formed = c.self.invariant; held = c.self.view_is } in
    let theirs : HoldSet c.args.other.now o.lo o.hi o.words.items = record { well_formed = c.other.invariant; held = c.other.view_is } in
    HoldSet-alike ours theirs c.requires c.as_mut_slice-ours.ensures.value c.as_slice-theirs.ensures

-- the words as the call left them
written : (c : goal.After-self-1) → HoldSet (intersection c.args.self.now c.args.other.now) c.self.inside.lo c.self.inside.hi c.and_words.new.target
written c =
    let r = c.self.inside in
    HoldSet-intersection c.args.self.now c.args.other.now r.lo r.hi c.as_mut_slice-ours.result.now c.as_slice-theirs.result.now c.and_words.new.target
    (both c).0 (both c).1 c.and_words.auto.target c.and_words.ensures

held : (c : goal.After-self-1) → HoldSet (intersection c.args.self.now c.args.other.now) c.self.inside.lo c.self.inside.hi
    (refill (length c.self.inside.words.items) c.self.inside.words.items c.and_words.new.target)
held c = HoldSet-refill c.self.inside.words.items c.and_words.new.target (written c)
    (c.and_words.auto.target ∙ ap length c.as_mut_slice-ours.ensures.value)

pub and_words-requires : goal.and_words-requires
and_words-requires c =
    let r = c.self.inside in
    let o = c.other.inside in
    let ours : HoldSet c.args.self.now r.lo r.hi r.words.items = record { well_formed = c.self.invariant; held = c.self.view_is } in
    let theirs : HoldSet c.args.other.now o.lo o.hi o.words.items = record { well_formed = c.other.invariant; held = c.other.view_is } in
    (HoldSet-alike ours theirs c.requires c.as_mut_slice-ours.ensures.value c.as_slice-theirs.ensures).2

pub invariant_of-self : goal.invariant_of-self
invariant_of-self c = (held c).well_formed

pub returns : goal.returns
returns c = (held c).held
