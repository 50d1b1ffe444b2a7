use Rattle.std.proofs.Common.{◌≡◌, ◌↔◌, true, sym, subst, ◌∙◌}
use Rattle.std.specs.Mem.Slots.{slots_items, slots_len}
use Rattle.bit_rows.specs.RowSet.{contains}
use Rattle.bit_rows.specs.RowTable.{RowTable, set_at, blank_table}
use Rattle.slice_board.proofs.words.Worded.{lie_within, same_bits}
use Rattle.slice_board.proofs.posted_words.PostedWords.put_into.Goals as goal

pub put_rows-requires-clause-within : goal.put_rows-requires-clause-within
put_rows-requires-clause-within c =
    let inside = c.self.inside in
    let blank : c.args.rows.now ≡ blank_table inside.flags.items 0 inside.bits =
    c.requires ∙ (λ i. let r : RowTable = sym c.self.view_is i in blank_table r.flags 0 r.hi) in
    lie_within (slots_items inside.closed.words) (slots_len inside.closed.words)
    inside.first inside.bits inside.flags.items c.self.invariant.2 c.args.rows.now blank

pub returns-clause-bits : goal.returns-clause-bits
returns-clause-bits c point bit =
    let inside = c.self.inside in
    let blank : c.args.rows.now ≡ blank_table inside.flags.items 0 inside.bits =
    c.requires ∙ (λ i. let r : RowTable = sym c.self.view_is i in blank_table r.flags 0 r.hi) in
    subst (λ (t : RowTable). (contains (set_at c.put_rows.new.rows point) bit ≡ true) ↔ (contains (set_at t point) bit ≡ true)) c.self.view_is
    (same_bits (slots_items inside.closed.words) (slots_len inside.closed.words)
    inside.first inside.bits inside.flags.items c.self.invariant.2 c.args.rows.now blank c.put_rows.new.rows c.put_rows.ensures point bit)
