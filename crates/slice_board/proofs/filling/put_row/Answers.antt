use Rattle.std.proofs.Common.{◌+◌, take, ap, length, arith, length-take-le}
use Rattle.std.specs.Mem.Slots.{slots_items, slots_len}
use Rattle.bit_rows.specs.RowTable.{RowTable}
use Rattle.slice_board.specs.Boards.{words_for}
use Rattle.slice_board.proofs.rows.Putting.{IsPutIn-more, masks_within, taken, block_room}
use Rattle.slice_board.proofs.filling.put_row.Goals as goal

pub block_of-block-requires-clause-room : goal.block_of-block-requires-clause-room
block_of-block-requires-clause-room c =
    let test = c.loop-first-test.true in
    let end = c.words_for-words.ensures in
    let high = c.hi.ensures in
    let less = c.min-count.ensures in
    block_room (c.args.from + c.args.point) c.loop-first.first c.min-count.result (words_for c.args.rows.now.hi) c.points-apart.result
    (length c.args.rows.now.flags) (slots_len c.args.closed.now.words) c.points-apart.ensures.count (omega arith) c.requires.room

pub or_words-requires-clause-masks : goal.or_words-requires-clause-masks
or_words-requires-clause-masks c k below i within set =
    let so_far = c.loop-first.invariant.so_far in
    let words = slots_items c.args.closed.now.words in
    let lo = ap (λ (r : RowTable). r.lo) so_far.others in
    let hi = ap (λ (r : RowTable). r.hi) so_far.others in
    let lowest = c.requires.lowest in
    let test = c.loop-first-test.true in
    let end = c.words_for-words.ensures in
    let high = c.hi.ensures in
    let less = c.min-count.ensures in
    let size = length-take-le c.min-count.result c.block_of-block.result (omega arith) in
    let copy = taken words c.block_of-block.result (c.args.from + c.args.point) c.loop-first.first c.min-count.result c.points-apart.result
    (length c.args.rows.now.flags) c.points-apart.ensures.count c.block_of-block.ensures in
    let inside = masks_within words (c.args.from + c.args.point) c.loop-first.first c.min-count.result c.args.rows.now
    (take c.min-count.result c.block_of-block.result) c.requires.within (omega arith) copy k (omega arith) i within set in
    (omega arith, omega arith)

pub loop-first-preserved : goal.loop-first-preserved
loop-first-preserved c =
    let i = c.loop-first.invariant in
    let words = slots_items c.args.closed.now.words in
    let test = c.loop-first-test.true in
    let end = c.words_for-words.ensures in
    let less = c.min-count.ensures in
    record {
      within = omega arith;
      so_far = IsPutIn-more words (c.args.from + c.args.point) c.args.point c.args.rows.now c.loop-first.first c.min-count.result c.loop-first.rows
          c.or_words.new.self (take c.min-count.result c.block_of-block.result) i.so_far c.requires.uniform c.requires.lowest c.requires.point
          (length-take-le c.min-count.result c.block_of-block.result (omega arith))
          (taken words c.block_of-block.result (c.args.from + c.args.point) c.loop-first.first c.min-count.result c.points-apart.result
          (length c.args.rows.now.flags) c.points-apart.ensures.count c.block_of-block.ensures) c.or_words.ensures;
    }
