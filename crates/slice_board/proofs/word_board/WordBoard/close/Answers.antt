use Rattle.std.proofs.Common.{◌≡◌, ◌<◌, ◌/◌, ◌%◌, ◌*◌, ◌∙◌, ◌↔◌, true, ap, ap₂, sym, subst, length, arith, refl}
use Rattle.std.specs.Mem.Slots.{slots_items}
use Rattle.bit_rows.specs.RowSet.{contains}
use Rattle.bit_rows.specs.RowTable.{RowTable, set_at}
use Rattle.bit_rows.specs.Slices.{Slices, CoverBits}
use Rattle.slice_board.specs.Passes.{PassState, times}
use Rattle.slice_board.specs.Boards.{BoardState, IsOf, slice_count, words_for}
use Rattle.slice_board.specs.Lawful.{shows_at}
use Rattle.slice_board.specs.code.Words.{about_key}
use Rattle.slice_board.specs.code.Fields.{pass_state}
use Rattle.slice_board.specs.code.Worded.{word_of, worded_table}
use Rattle.slice_board.proofs.passes.Passing.{knows, same_slices, same_wanted, held_low}
use Rattle.slice_board.proofs.words.Calls.{tally_is}
use Rattle.slice_board.proofs.passes.Endings.{whole, full, all_finished, not_whole, finals, clear_past, words_exact, some_one}
use Rattle.slice_board.proofs.word_board.WordBoard.close.Goals as goal

pub returns-then-done-of-clause-all_finished : goal.returns-then-done-of-clause-all_finished
returns-then-done-of-clause-all_finished g c all =
    let done = full _ _ c.args.pass c.count_finished-done.new.pass c.count_finished-done.ensures.counted all in
    let slices = ap (λ (b : BoardState _). slice_count b.cut) c.self.view_is in
    let count = c.slices-of.ensures.count in
    let less = c.if-done-of.true in
    absurd (omega arith)

pub returns-then-done-of-clause-drained : goal.returns-then-done-of-clause-drained
returns-then-done-of-clause-drained g c drained whole =
    let counted = c.count_finished-done.ensures.counted in
    let all = all_finished _ _ c.args.pass c.count_finished-done.new.pass counted c.args.self refl drained whole in
    let done = full _ _ c.args.pass c.count_finished-done.new.pass counted all in
    let slices = ap (λ (b : BoardState _). slice_count b.cut) c.self.view_is in
    let count = c.slices-of.ensures.count in
    let less = c.if-done-of.true in
    absurd (omega arith)

pub of-requires-clause-posted : goal.of-requires-clause-posted
of-requires-clause-posted g c =
    let laid = c.self.invariant in
    let slices = ap (λ (b : BoardState _). slice_count b.cut) c.self.view_is in
    let count = c.slices-of.ensures.count in
    let all = c.if-done-of.false in
    let same = same_slices laid c.self.view_is in
    let bits = c.bits.ensures ∙ sym (ap (λ (k : Slices). k.bits) laid.cut_is) in
    let tally = tally_is laid c.self.view_is _ _ c.words_for.ensures c.slices.ensures.count in
    let end = finals g.T.Wanted.wants (about_key c.self.inside.table.shared.key)
    _ c.pass.inside.seat.me.0 _ _ (subst CoverBits (sym laid.cut_is) c.slices-of.ensures.cover)
    (λ s h. subst (λ (p : PassState _). 0 < shows_at (s / 64) (s % 64) p.counted) (sym c.pass.view_is)
    (whole _ _ c.args.pass c.count_finished-done.new.pass c.count_finished-done.ensures.counted (omega arith) s (omega arith)))
    c.close_with-closed.ensures.values.2 in
    let wide = laid.wide in
    let counts = c.close_with-closed.ensures.counts.0 in
    let product = ap₂ (λ n b. n * words_for b) laid.points_is (sym bits) in
    record {
      few = laid.few;
      room = omega (arith, wide, counts, tally, product);
      clear = clear_past g.T.Wanted.wants (about_key c.self.inside.table.shared.key) _ end _ c.self.inside.flags.items c.bits.result tally bits
          (sym laid.points_is) (λ p b wanted. let r = laid.within p b wanted in (r.0, omega (arith, r.1, c.bits.ensures)));
    }

pub returns-clause-rows : goal.returns-clause-rows
returns-clause-rows g c point bit =
    let laid = c.self.invariant in
    let slices = ap (λ (b : BoardState _). slice_count b.cut) c.self.view_is in
    let count = c.slices-of.ensures.count in
    let all = c.if-done-of.false in
    let same = same_slices laid c.self.view_is in
    let bits = c.bits.ensures ∙ sym (ap (λ (k : Slices). k.bits) laid.cut_is) in
    let tally = tally_is laid c.self.view_is _ _ c.words_for.ensures c.slices.ensures.count in
    let end = finals g.T.Wanted.wants (about_key c.self.inside.table.shared.key)
    _ c.pass.inside.seat.me.0 _ _ (subst CoverBits (sym laid.cut_is) c.slices-of.ensures.cover)
    (λ s h. subst (λ (p : PassState _). 0 < shows_at (s / 64) (s % 64) p.counted) (sym c.pass.view_is)
    (whole _ _ c.args.pass c.count_finished-done.new.pass c.count_finished-done.ensures.counted (omega arith) s (omega arith)))
    c.close_with-closed.ensures.values.2 in
    let exact = words_exact g.T.Wanted.wants (about_key c.self.inside.table.shared.key) _ end _ c.self.inside.flags.items c.bits.result tally bits
    (sym laid.points_is) (λ p b wanted. let r = laid.within p b wanted in (r.0, omega (arith, r.1, c.bits.ensures))) in
    subst (λ (r : RowTable). (contains (set_at r point) bit ≡ true) ↔ g.T.Wanted.wants c.args.self.wanted point bit) (sym c.of.ensures)
    (subst (λ (t : _). (contains (set_at (worded_table c.bits.result c.self.inside.flags.items
    (word_of (slots_items c.close_with-closed.result.words) (2 * c.words_for.result) (length c.self.inside.flags.items))) point) bit
    ≡ true) ↔ g.T.Wanted.wants t point bit) (same_wanted laid c.self.view_is) (exact point bit))

pub returns-clause-holding : goal.returns-clause-holding
returns-clause-holding g c some =
    let laid = c.self.invariant in
    let slices = ap (λ (b : BoardState _). slice_count b.cut) c.self.view_is in
    let count = c.slices-of.ensures.count in
    let all = c.if-done-of.false in
    let same = same_slices laid c.self.view_is in
    let p = c.pass.inside in
    let new = c.count_finished-done.ensures.pass in
    let of : IsOf c.args.self c.count_finished-done.new.pass = record {
      table = ap (λ (q : PassState _). q.table) new ∙ c.requires.table;
      about = ap (λ (q : PassState _). q.about) new ∙ c.requires.about;
    } in
    let held = some_one c.args.pass.held some in
    let low = held_low (pass_state p.seat.table_id p.seat.me.0 p.held p.next) (about_key c.self.inside.table.shared.key) held.0 c.pass.invariant.0
    (knows laid c.self.view_is c.pass.view_is of)
    (ap (λ (q : PassState _). q.held) (c.pass.view_is ∙ new) ∙ held.1) in
    let low0 = low.0 in
    let less : times held.0 c.args.pass.finished < times held.0 c.args.pass.claimed =
    subst (λ (q : PassState _). times held.0 q.finished < times held.0 q.claimed) (c.pass.view_is ∙ new) low.1 in
    absurd (not_whole _ _ c.args.pass c.count_finished-done.new.pass c.count_finished-done.ensures.counted held.0 (omega arith) less (omega arith))
