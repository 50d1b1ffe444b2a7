use Rattle.std.proofs.Common.{ℕ, List, length, sym, ap, ◌∙◌, subst}
use Rattle.std.specs.List.{refill}
use Rattle.bit_rows.specs.RowSet.{complement}
use Rattle.bit_rows.proofs.rows.WordRows.{HoldSet, HoldSet-refill, HoldSet-complement}
use Rattle.bit_rows.proofs.one_row.Row.flip.Goals as goal

held : (c : goal.After-self-1) → HoldSet (complement c.args.self.now) c.self.inside.lo c.self.inside.hi
    (refill (length c.self.inside.words.items) c.self.inside.words.items c.trim.new.words)
held c =
    let r = c.self.inside in
    let s = c.args.self.now in
    let inside : HoldSet s r.lo r.hi r.words.items = record { well_formed = c.self.invariant; held = c.self.view_is } in
    let before = c.as_mut_slice-words.result.now in
    let ours : HoldSet s r.lo r.hi before = subst (λ (xs : List ℕ). HoldSet s r.lo r.hi xs) (sym c.as_mut_slice-words.ensures.value) inside in
    HoldSet-refill r.words.items c.trim.new.words
    (HoldSet-complement s r.lo r.hi before c.flip_words.new.words c.trim.new.words ours c.flip_words.auto.words c.trim.auto.words c.flip_words.ensures
    c.trim.ensures)
    (c.trim.auto.words ∙ c.flip_words.auto.words ∙ ap length c.as_mut_slice-words.ensures.value)

pub invariant_of-self : goal.invariant_of-self
invariant_of-self c = (held c).well_formed

pub returns : goal.returns
returns c = (held c).held
