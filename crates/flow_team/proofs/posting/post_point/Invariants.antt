use Rattle.std.proofs.Common.{◌≡◌, ◌<◌, ◌≤◌}
use Rattle.slice_board.specs.Boards.{IsOf}
use Rattle.flow_team.specs.code.Posting.{IsPosted}
use Rattle.slice_board.specs.Teams.{PostsMore}
use Rattle.flow_team.proofs.posting.post_point.Given as goal

abbrev pub invariant-loop-word : goal.invariant-loop-word
invariant-loop-word g l = record {
  of : IsOf l.board l.pass;
  more : PostsMore l.fn.pass l.pass;
  posted : IsPosted (g.W.Wanted.wants l.board.wanted) l.slice.lo l.slice.hi (λ p word. (p ≡ l.point) × (l.slice.from ≤ word) × (word < l.word))
      l.pass.posted;
}
