use Rattle.std.proofs.Common.{◌≡◌, ◌-◌, ◌≤◌, None}
use Rattle.slice_board.proofs.passes.Passing.{found_to}
use Rattle.slice_board.specs.Boards.{IsOf, slice_count}
use Rattle.slice_board.proofs.word_board.WordBoard.claim.Given as goal

-- the pass found taken each slice that was tried
abbrev pub invariant-loop-pass : goal.invariant-loop-pass
invariant-loop-pass g l = record {
  of : IsOf l.self l.pass;
  free : l.pass.held ≡ None;
  from : l.initial.pass.next ≤ l.pass.next;
  found : l.pass ≡ found_to l.initial.pass l.pass.next;
}

abbrev pub decreases-loop-pass : goal.decreases-loop-pass
decreases-loop-pass g l = slice_count l.self.cut - l.pass.next
