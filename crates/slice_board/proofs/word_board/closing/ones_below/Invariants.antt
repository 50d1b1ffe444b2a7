use Rattle.std.proofs.Common.{◌≡◌, ◌≤◌}
use Rattle.slice_board.specs.code.Closing.{ones_below}
use Rattle.slice_board.proofs.word_board.closing.ones_below.Given as goal

abbrev pub invariant-loop-place : goal.invariant-loop-place
invariant-loop-place l = record { so_far : l.ones ≡ ones_below l.place l.word; most : l.ones ≤ l.place }
