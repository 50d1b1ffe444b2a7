use Rattle.std.proofs.Common.{◌+◌, ◌-◌, ◌≤◌}
use Rattle.std.specs.Mem.Slots.{slots_items}
use Rattle.slice_board.specs.code.Closing.{IsPutIn}
use Rattle.slice_board.proofs.filling.put_row.Given as goal

abbrev pub invariant-loop-first : goal.invariant-loop-first
invariant-loop-first l = record {
  within : l.first ≤ l.words;
  so_far : IsPutIn (slots_items l.closed.words) (l.from + l.point) l.point l.first l.initial.rows l.rows;
}

abbrev pub decreases-loop-first : goal.decreases-loop-first
decreases-loop-first l = l.words - l.first
