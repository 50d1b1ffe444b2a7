use Rattle.std.proofs.Common.{ℕ, List, length, sym, ap, ◌∙◌, subst}
use Rattle.std.specs.List.{refill}
use Rattle.bit_rows.specs.RowSet.{with_words}
use Rattle.bit_rows.proofs.rows.WordRows.{HoldSet, HoldSet-refill, HoldSet-with_words}
use Rattle.bit_rows.proofs.one_row.Row.or_words.Goals as goal

held : (c : goal.After-self-1) → HoldSet (with_words c.args.self.now c.args.first c.args.masks.now) c.self.inside.lo c.self.inside.hi
    (refill (length c.self.inside.words.items) c.self.inside.words.items c.or_words_from.new.target)
held c =
    let r = c.self.inside in
    let s = c.args.self.now in
    let before = c.as_mut_slice-words.result.now in
    let inside : HoldSet s r.lo r.hi r.words.items = record { well_formed = c.self.invariant; held = c.self.view_is } in
    let ours : HoldSet s r.lo r.hi before = subst (λ (xs : List ℕ). HoldSet s r.lo r.hi xs) (sym c.as_mut_slice-words.ensures.value) inside in
    let written = HoldSet-with_words s r.lo r.hi before c.args.first c.args.masks.now c.or_words_from.new.target ours c.requires
    c.or_words_from.auto.target c.or_words_from.ensures in
    HoldSet-refill r.words.items c.or_words_from.new.target written (c.or_words_from.auto.target ∙ ap length c.as_mut_slice-words.ensures.value)

pub invariant_of-self : goal.invariant_of-self
invariant_of-self c = (held c).well_formed

pub returns : goal.returns
returns c = (held c).held
