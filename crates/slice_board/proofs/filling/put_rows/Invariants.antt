use Rattle.std.specs.Mem.Slots.{slots_items}
use Rattle.slice_board.specs.code.Closing.{ArePutIn}
use Rattle.slice_board.proofs.filling.put_rows.Given as goal

abbrev pub invariant-points : goal.invariant-points
invariant-points l = ArePutIn (slots_items l.closed.words) l.from l.point l.initial.rows l.rows
