use Rattle.std.specs.Mem.Slots.{slots_items}
use Rattle.slice_board.proofs.rows.Putting.{ArePutIn-more}
use Rattle.slice_board.proofs.filling.put_rows.Goals as goal

pub points-preserved : goal.points-preserved
points-preserved c = ArePutIn-more (slots_items c.args.closed.now.words)
    c.args.from c.args.rows.now c.requires.blank c.points.point c.points.rows c.put_row.new.rows c.points.invariant c.put_row.ensures
