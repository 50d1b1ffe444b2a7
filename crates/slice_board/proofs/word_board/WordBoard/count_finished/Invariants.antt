use Rattle.std.proofs.Common.{◌≡◌}
use Rattle.slice_board.specs.Boards.{IsOf, slice_count}
use Rattle.slice_board.specs.code.Closing.{CountedTo}
use Rattle.slice_board.proofs.word_board.WordBoard.count_finished.Given as goal

abbrev pub invariant-words : goal.invariant-words
invariant-words g l = record {
  of : IsOf l.self l.pass;
  same : l.pass ≡ record l.initial.pass { counted = l.pass.counted };
  so_far : CountedTo (slice_count l.self.cut) l.word l.initial.pass l.pass l.done;
}
