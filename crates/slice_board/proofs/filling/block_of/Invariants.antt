use Rattle.std.proofs.Common.{◌≡◌, ◌+◌, ◌*◌, ◌<◌, ℕ, length, slice_index}
use Rattle.std.specs.Mem.Slots.{slots_items}
use Rattle.slice_board.proofs.filling.block_of.Given as goal

abbrev pub invariant-loop-k : goal.invariant-loop-k
invariant-loop-k l = record {
  size : length l.block ≡ 64;
  so_far : (m : ℕ) → m < l.k → slice_index l.block m ≡ slice_index (slots_items l.closed.words) (l.from + m * l.apart);
}
