use Rattle.std.proofs.Common.{◌≡◌, ◌<◌, true, subst, length}
use Rattle.std.specs.Mem.Slots.{slots_items}
use Rattle.bit_rows.specs.RowSet.{contains}
use Rattle.bit_rows.specs.RowTable.{RowTable, set_at}
use Rattle.slice_board.specs.code.Worded.{word_of}
use Rattle.slice_board.proofs.words.Worded.{bit_within}
use Rattle.slice_board.proofs.posted_words.PostedWords.bits.Goals as goal

pub returns-clause-within : goal.returns-clause-within
returns-clause-within c point bit =
    let inside = c.self.inside in
    subst (λ (t : RowTable). contains (set_at t point) bit ≡ true → bit < t.hi) c.self.view_is
    (λ set. (bit_within inside.bits inside.flags.items (word_of (slots_items inside.closed.words) inside.first (length inside.flags.items))
    point bit set).1)
