use Rattle.std.proofs.Common.{◌≡◌, ◌<◌, ◌≤◌, ◌||◌, ℕ, true, false, length, get_or}
use Rattle.bit_rows.specs.Words.{has_bit}
use Rattle.gk_solve.specs.Tables.Groups.{room_of_words}
use Rattle.gk_solve.proofs.lanes.added_words.Given as goal

abbrev pub invariant-loop-w : goal.invariant-loop-w
invariant-loop-w g l = record {
  count : length l.all ≡ g.row.W;
  done : (j k : ℕ) → j < l.w → has_bit (get_or l.all j 0) k ≡ (has_bit (get_or l.fn.words j 0) k || has_bit (get_or l.more j 0) k);
  rest : (j : ℕ) → l.w ≤ j → get_or l.all j 0 ≡ get_or l.fn.words j 0;
  same : l.changed ≡ false → l.all ≡ l.fn.words;
  less : l.changed ≡ true → room_of_words l.all < room_of_words l.fn.words;
}
